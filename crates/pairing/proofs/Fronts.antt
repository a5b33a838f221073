-- The room that is lent: exactly 4,096 places for each square and 64 for each line; and its front, which n rows take.
use mathlib.Core.Path.{◌≡◌, refl, sym}
use mathlib.Core.Bool.{true}
use Prim.Native.Nat.{ℕ, ◌*◌, ◌≤◌}
use lib.Dec.{T}
use lib.ListN.{length}
use Rattle.lines.proofs.Bounds.{cells_fit}
use Rattle.lines.proofs.Tests.{T_true, and_left, and_right}
use Rattle.steps.specs.Refusal as R
use Rattle.rules.proofs.Rooms.{is_room, room_of}
use Rattle.storm_case.specs.Case.{has_cells}
use Rattle.storm_case.proofs.Room.{Front, front_of, cells_are}
use Rattle.pairing.specs.Pair.{Loan, enough_room, fresh, front}

pub record Fronts (n : ℕ) (l : Loan) : Type 0 where
  pub costs : Front (n * n) l.costs
  pub mask : Front (n * n) l.mask
  pub working : Front (n * n) l.rest.working
  pub marks : Front (n * n) l.rest.marks
  pub columns : Front n l.rest.columns
  pub row_prices : Front n l.rest.row_prices
  pub column_prices : Front n l.rest.column_prices

pub cells_lent : (l : Loan) → enough_room l ≡ true → has_cells (length l.costs) (length l.mask) ≡ true
cells_lent l e =
    let t : T (enough_room l) = rw e tt in
    T_true _ (and_left (has_cells (length l.costs) (length l.mask)) (R.room 4096 64 l.rest) t)

pub fronts : {n : ℕ} (l : Loan) → n ≤ 64 → enough_room l ≡ true → Fronts n l
fronts l h e =
    let cells = cells_are _ _ (cells_lent l e) in
    let t : T (enough_room l) = rw e tt in
    let rest = room_of 4096 64 l.rest (and_right (has_cells (length l.costs) (length l.mask)) (R.room 4096 64 l.rest) t) in
    record {
      costs = front_of (cells_fit h) cells.0;
      mask = front_of (cells_fit h) cells.1;
      working = front_of (cells_fit h) rest.working_cells;
      marks = front_of (cells_fit h) rest.marks_cells;
      columns = front_of h rest.columns_lines;
      row_prices = front_of h rest.row_prices_lines;
      column_prices = front_of h rest.column_prices_lines;
    }

-- the programs' own buffers
pub fresh_room : enough_room fresh ≡ true
unfolding has_cells R.has_room
fresh_room = refl

-- the front is what the solver asks for
pub front_room : {n : ℕ} {l : Loan} → Fronts n l → T (R.room (n * n) n (front n l.rest))
unfolding front
front_room {n} f = is_room (n * n) n _ _ _ _ _ (record {
  working_cells = sym f.working.long;
  marks_cells = sym f.marks.long;
  columns_lines = sym f.columns.long;
  row_prices_lines = sym f.row_prices.long;
  column_prices_lines = sym f.column_prices.long;
})
