-- `run_steps` goes from step to step (`Comes`), and what is left to do falls with each.
use Rattle.steps.specs.Lent.{allows}
use Rattle.steps.specs.Bounds.{left}
use Rattle.quick.specs.Shown.{shown_by}
use Rattle.quick.proofs.Comings.{Comes}
use Rattle.quick.proofs.step.run_steps.Given as goal

abbrev pub invariant-steps : goal.invariant-steps
invariant-steps l =
    let m = l.matrix in
    Comes m.n m.costs.now m.mask.now l.budget (shown_by m.n m.costs.now m.mask.now l.initial.state l.initial.row_prices l.initial.column_prices l.initial.stars) l.state
    l.keys l.row_prices l.column_prices l.stars l.opened

abbrev pub decreases-steps : goal.decreases-steps
decreases-steps l =
    let m = l.matrix in
    left m.n (allows m.n m.mask.now) (shown_by m.n m.costs.now m.mask.now l.state l.row_prices l.column_prices l.stars)
