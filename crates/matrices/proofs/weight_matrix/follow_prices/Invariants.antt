-- `weight_matrix::follow_prices` meets its contract: the rows so far are done (`RowsPassed`).
use mathlib.Core.Bool.{cond}
use Prim.Native.Nat.{◌≤◌}
use lib.IntN.{pos}
use Rattle.lines.specs.Sets.{has}
use Rattle.lines.proofs.Rows.{RowsPassed}
use Rattle.steps.specs.Lent.{allows}
use Rattle.steps.specs.Steps.{follow}
use Rattle.matrices.proofs.weight_matrix.follow_prices.Given as goal

abbrev pub invariant-loop-row : goal.invariant-loop-row
invariant-loop-row l =
    let m = l.matrix in
    (l.row ≤ m.n)
    × RowsPassed (pos 0) m.n (λ i j w. cond (allows m.n m.mask.now i j) (follow l.change (has l.rows i) (has l.columns j) w) w) l.initial.working l.working l.row
