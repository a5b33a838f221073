-- `values::set_row_prices` sets the prices of the rows so far (`Passed`).
use lib.IntN.{pos}
use lib.ListN.{get_or}
use Rattle.lines.proofs.Loops.{Passed}
use Rattle.steps.specs.Lent.{cost_at}
use Rattle.starred.proofs.values.set_row_prices.Given as goal

abbrev pub invariant-loop-row : goal.invariant-loop-row
invariant-loop-row l =
    Passed (pos 0) (λ i p. cost_at l.matrix.n l.matrix.costs.now i (get_or l.cheapest i 0)) l.initial.row_prices l.row_prices l.row
