-- `Stars::star_rows` stars the rows so far (`Starring`).
use mathlib.Core.Path.{◌≡◌}
use Rattle.lines.specs.Square.{square}
use Rattle.steps.specs.Lent.{allows, cost_at}
use Rattle.steps.specs.Steps.{excess}
use Rattle.starred.proofs.Starrings.{Starring}
use Rattle.starred.proofs.stars.Stars.star_rows.Given as goal

abbrev pub invariant-loop-row : goal.invariant-loop-row
invariant-loop-row l =
    let m = l.matrix in
    Starring m.n (allows m.n m.mask.now) (square (excess m.n (allows m.n m.mask.now) (cost_at m.n m.costs.now)) m.n) l.self.star l.self.owner l.taken l.row
    × (l.self.prime ≡ l.fn.self.prime)
