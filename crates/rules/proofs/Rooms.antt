-- The room of the written buffers as facts, one for each length.
use mathlib.Core.Path.{◌≡◌, sym, ◌∙◌}
use mathlib.Core.Bool.{◌&&◌}
use Prim.Native.Nat.{ℕ}
use Rattle.std.proofs.Math.Bool.{and_assoc}
use borrow.Author.Tests.{eq-eqb}
use lib.Dec.{T, eqb, eqb→eq}
use lib.ListN.{length}
use Rattle.lines.proofs.Tests.{and_left, and_right}
use Rattle.steps.specs.Lent.{Buffers}
use Rattle.steps.specs.Refusal.{has_room, room}

pub record HasRoom (cells lines working marks columns row_prices column_prices : ℕ) : Type 0 where
  pub working_cells : working ≡ cells
  pub marks_cells : marks ≡ cells
  pub columns_lines : columns ≡ lines
  pub row_prices_lines : row_prices ≡ lines
  pub column_prices_lines : column_prices ≡ lines

abbrev pub Room : ℕ → ℕ → Buffers → Type 0
Room cells lines b = HasRoom cells lines (length b.working) (length b.marks) (length b.columns) (length b.row_prices) (length b.column_prices)

module _ (cells lines working marks columns row_prices column_prices : ℕ) where
  -- the lengths tested from the first on, or from the last
  pub tested : (eqb working cells && (eqb marks cells && (eqb columns lines && (eqb row_prices lines && eqb column_prices lines))))
      ≡ has_room cells lines working marks columns row_prices column_prices
  unfolding has_room
  tested =
      let a = eqb working cells in
      let b = eqb marks cells in
      let c = eqb columns lines in
      let d = eqb row_prices lines in
      let e = eqb column_prices lines in
      sym (and_assoc (a && b && c) d e ∙ and_assoc (a && b) c (d && e) ∙ and_assoc a b (c && (d && e)))

  pub room_is : T (has_room cells lines working marks columns row_prices column_prices) → HasRoom cells lines working marks columns row_prices column_prices
  unfolding has_room
  room_is h =
      let x1 = eqb working cells in
      let x2 = x1 && eqb marks cells in
      let x3 = x2 && eqb columns lines in
      let x4 = x3 && eqb row_prices lines in
      let h4 = and_left x4 _ h in
      let h3 = and_left x3 _ h4 in
      let h2 = and_left x2 _ h3 in
      record {
        working_cells = eqb→eq _ _ (and_left x1 _ h2);
        marks_cells = eqb→eq _ _ (and_right x1 _ h2);
        columns_lines = eqb→eq _ _ (and_right x2 _ h3);
        row_prices_lines = eqb→eq _ _ (and_right x3 _ h4);
        column_prices_lines = eqb→eq _ _ (and_right x4 _ h);
      }

  pub is_room : HasRoom cells lines working marks columns row_prices column_prices → T (has_room cells lines working marks columns row_prices column_prices)
  unfolding has_room
  is_room r =
      rw (
        eq-eqb _ _ r.working_cells,
        eq-eqb _ _ r.marks_cells,
        eq-eqb _ _ r.columns_lines,
        eq-eqb _ _ r.row_prices_lines,
        eq-eqb _ _ r.column_prices_lines,
      ) tt

pub room_of : (cells lines : ℕ) (b : Buffers) → T (room cells lines b) → Room cells lines b
room_of cells lines b = room_is cells lines _ _ _ _ _
