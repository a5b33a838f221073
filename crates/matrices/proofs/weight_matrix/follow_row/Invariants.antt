-- `weight_matrix::follow_row` meets its contract: the row's columns so far are done (`RowPassed`).
use mathlib.Core.Bool.{Bool, cond}
use mathlib.Core.List.{List}
use Prim.Native.Nat.{ℕ, ◌+◌, ◌*◌, ◌%◌, ◌^◌, ◌≤◌}
use lib.IntN.{ℤ, pos}
use Rattle.lines.specs.Sets.{has, rest}
use Rattle.lines.proofs.Rows.{RowPassed}
use Rattle.lines.proofs.Walks.{Walk}
use Rattle.steps.specs.Lent.{allows}
use Rattle.steps.specs.Steps.{follow}
use Rattle.matrices.proofs.weight_matrix.follow_row.Given as goal

abbrev pub Alike : ℕ → ℕ → Bool → ℕ
Alike n columns covered = cond covered (columns % 2 ^ n) (rest n columns)

abbrev pub Kept : ℕ → List ℕ → ℕ → ℕ → Bool → ℤ → List ℤ → List ℤ → ℕ → Type 0
Kept n mask columns row covered change before after i =
    RowPassed (pos 0) n row (λ j w. cond (allows n mask row j) (follow change covered (has columns j) w) w) before after i

abbrev pub invariant-loop-column : goal.invariant-loop-column
invariant-loop-column l =
    (l.row * l.n + l.n ≤ l.n * l.n) × Walk l.n (Alike l.n l.columns l.covered) (Kept l.n l.mask l.columns l.row l.covered l.change l.initial.working l.working) l.column-iterator.left
