-- `values::write_working` writes the working values row by row (`RowsPassed`).
use mathlib.Core.Bool.{cond}
use lib.IntN.{pos, ◌-ℤ◌}
use lib.ListN.{get_or}
use Rattle.lines.proofs.Rows.{RowsPassed}
use Rattle.steps.specs.Lent.{allows, cost_at}
use Rattle.starred.proofs.values.write_working.Given as goal

abbrev pub invariant-loop-row : goal.invariant-loop-row
invariant-loop-row l =
    let m = l.matrix in
    RowsPassed (pos 0) m.n (λ i j w. cond (allows m.n m.mask.now i j) (cost_at m.n m.costs.now i j -ℤ get_or l.row_prices i (pos 0) -ℤ get_or l.column_prices j (pos 0)) (pos 0)) l.initial.working l.working l.row
