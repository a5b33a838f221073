-- `run_steps` meets its contract: some steps have led here and the machine is good (`Coming`); what is left to do falls with each step.
use Rattle.steps.specs.Lent.{allows}
use Rattle.steps.specs.Steps.{machine}
use Rattle.steps.specs.Bounds.{left}
use Rattle.ground.specs.View.{view}
use Rattle.ground.proofs.Arms.{Coming}
use Rattle.munkres.proofs.step.run_steps.Given as goal

abbrev pub invariant-steps : goal.invariant-steps
invariant-steps l =
    let m = l.matrix in
    Coming m.n m.mask.now l.budget
    (machine (view l.initial.state) l.initial.working l.initial.marks l.initial.row_prices l.initial.column_prices)
    (machine (view l.state) l.working l.marks l.row_prices l.column_prices)

abbrev pub decreases-steps : goal.decreases-steps
decreases-steps l =
    let m = l.matrix in
    left m.n (allows m.n m.mask.now) (machine (view l.state) l.working l.marks l.row_prices l.column_prices)
