-- `weight_matrix::sub_row` meets its contract: the row's columns so far are done (`RowPassed`).
use mathlib.Core.Bool.{cond}
use Prim.Native.Nat.{◌≤◌, ◌*◌, ◌+◌}
use lib.IntN.{pos, ◌-ℤ◌}
use Rattle.lines.proofs.Rows.{RowPassed}
use Rattle.steps.specs.Lent.{allows, cost_at}
use Rattle.matrices.proofs.weight_matrix.sub_row.Given as goal

abbrev pub invariant-loop-column : goal.invariant-loop-column
invariant-loop-column l =
    (l.row * l.n + l.n ≤ l.n * l.n) × (l.column ≤ l.n)
    × RowPassed (pos 0) l.n l.row (λ j w. cond (allows l.n l.mask l.row j) (cost_at l.n l.costs l.row j -ℤ l.price) (pos 0)) l.initial.working l.working l.column
