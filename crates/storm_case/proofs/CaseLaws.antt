-- What the reader gives back, by the verdict; an accepted file's scan is full.
use mathlib.Core.Path.{◌≡◌, sym, ap}
use mathlib.Core.Logic.{◌≢◌}
use mathlib.Core.Bool.{true, false}
use mathlib.Core.List.{List, ◌++◌}
use Prim.Native.Nat.{ℕ, ◌+◌, ◌*◌, ◌≤◌, ◌<◌}
use native.Mathlib.Omega.{arith}
use lib.IntN.{ℤ}
use lib.ListN.{length, get_or, take, drop}
use borrow.Author.Tests.{lt-ltb, le-ltb}
use Rattle.lines.specs.Square.{square}
use Rattle.lines.proofs.Bounds.{cells_fit}
use Rattle.storm_case.specs.declared.Case.{Case}
use Rattle.std.specs.Prelude.{Some, None}
use Rattle.judgement.specs.Refused.{number_of}
use Rattle.judgement.specs.declared.refusal.Rule.{Rule}
use Rattle.judgement.specs.declared.refusal.Rule.TheVariants.{Room, Cut, Unknown, Order, Count, Range, Behind}
use Rattle.judgement.specs.Numbers.{u16_at}
use Rattle.judgement.specs.Scan as D
use Rattle.cells.specs.Asks.{Fillable}
use Rattle.storm_case.specs.Case.{hut_of, pair_cost, mask_byte, filled, case, case_of, has_cells, read, hut_in, hut}
use Rattle.storm_case.proofs.Room.{Front, front_of, cells_are}
use Rattle.judgement.proofs.ScanLaws.{accepted_filled, accepted_consistent}

-- a refusal's number is never 0
pub number_some : (rule : Rule) → number_of rule ≢ 0
number_some Room e = absurd (omega (arith, e))
number_some Cut e = absurd (omega (arith, e))
number_some Unknown e = absurd (omega (arith, e))
number_some Order e = absurd (omega (arith, e))
number_some Count e = absurd (omega (arith, e))
number_some Range e = absurd (omega (arith, e))
number_some Behind e = absurd (omega (arith, e))

-- ---- the room of an accepted file's cells

module _ (file : List ℕ) {s : D.Scan} (e : D.accepted s ≡ D.judged file) where
  pub scan_small : s.n ≤ 64
  scan_small = (accepted_filled file (sym e)).small

  -- a square of n rows has its room in the front of a buffer
  pub cells_front : {A : Type 0} (xs : List A) → length xs ≡ 4096 → Front (s.n * s.n) xs
  cells_front xs l = front_of (cells_fit scan_small) l

  pub fillable : {A B : Type 0} (costs : List A) (mask : List B) → has_cells (length costs) (length mask) ≡ true
      → Fillable file s (take (s.n * s.n) costs) (take (s.n * s.n) mask)
  fillable costs mask room =
      let filled = accepted_filled file (sym e) in
      let long = cells_are _ _ room in
      record {
        consistent = accepted_consistent file (sym e);
        all_rows = filled.rows;
        all_columns = filled.columns;
        costs_long = sym (cells_front costs long.0).long;
        mask_long = sym (cells_front mask long.1).long;
      }

-- ---- what the reader gives back

pub no_room : (file : List ℕ) (costs : List ℤ) (mask : List ℕ) {r : Case} → has_cells (length costs) (length mask) ≡ false → r ≡ case 20 0 0 0
    → (r, costs, mask) ≡ read file costs mask
unfolding read
no_room file costs mask none q = rw (q, none)

module _ (file : List ℕ) (costs : List ℤ) (mask : List ℕ) (room : has_cells (length costs) (length mask) ≡ true) where
  read_judged : (j : D.Judged) → D.judged file ≡ j → read file costs mask ≡ case_of file costs mask j
  unfolding read
  read_judged j e = rw (e, room)

  pub read_refused : {number place : ℕ} → D.refused number place ≡ D.judged file → (case number place 0 0, costs, mask) ≡ read file costs mask
  unfolding case_of
  read_refused e = sym (read_judged _ (sym e))

  pub read_accepted : {s : D.Scan} {cs : List ℤ} {ms : List ℕ} → D.accepted s ≡ D.judged file
      → (cs ≡ square (pair_cost file s) s.n) × (ms ≡ square (mask_byte file s) s.n)
      → (case 0 0 s.n s.window, cs ++ drop (s.n * s.n) costs, ms ++ drop (s.n * s.n) mask) ≡ read file costs mask
  unfolding case_of filled
  read_accepted e q = rw (q.0, q.1) (sym (read_judged _ (sym e)))

-- ---- the hut of a row

module _ (file : List ℕ) (i : ℕ) where
  pub hut_refused : {number place : ℕ} → D.refused number place ≡ D.judged file → None ≡ hut file i
  unfolding hut hut_in
  hut_refused e = ap (hut_in file i) e

  module _ {s : D.Scan} (e : D.accepted s ≡ D.judged file) where
    pub hut_past : length s.fragments ≤ i → None ≡ hut file i
    unfolding hut hut_in
    hut_past h = rw (← e, le-ltb i s.n (omega (arith, (accepted_filled file (sym e)).rows)))

    module _ (below : i < length s.fragments) where
      pub hut_there : {h : ℕ} → h ≡ u16_at file (get_or s.fragments i 0 + 1) → Some h ≡ hut file i
      unfolding hut hut_in hut_of
      hut_there q = rw (q, ← e, lt-ltb i s.n (omega (arith, (accepted_filled file (sym e)).rows)))

      pub fragment_inside : get_or s.fragments i 0 + 9 ≤ length file
      fragment_inside = (accepted_consistent file (sym e)).rows.inside i below
