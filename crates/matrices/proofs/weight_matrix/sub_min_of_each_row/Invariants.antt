-- `weight_matrix::sub_min_of_each_row` meets its contract: the rows and the row prices so far are done.
use Prim.Native.Nat.{◌≤◌}
use lib.IntN.{pos}
use Rattle.lines.proofs.Loops.{Passed}
use Rattle.lines.proofs.Rows.{RowsPassed}
use Rattle.steps.specs.Lent.{allows, cost_at}
use Rattle.steps.specs.Steps.{row_price, excess}
use Rattle.matrices.proofs.weight_matrix.sub_min_of_each_row.Given as goal

abbrev pub invariant-loop-row : goal.invariant-loop-row
invariant-loop-row l =
    let m = l.matrix in
    (l.row ≤ m.n) × RowsPassed (pos 0) m.n (λ i j w. excess m.n (allows m.n m.mask.now) (cost_at m.n m.costs.now) i j) l.initial.working l.working l.row
    × Passed (pos 0) (λ i p. row_price m.n (allows m.n m.mask.now) (cost_at m.n m.costs.now) i) l.initial.row_prices l.row_prices l.row
