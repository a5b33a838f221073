-- `run_steps` meets its contract: some steps have led here and the machine is good (`Coming`); what is left to do falls with each step.
use mathlib.Core.Path.{sym, ◌∙◌}
use Rattle.ground.proofs.Arms.{coming_here, coming_next, coming_falls, came}
use Rattle.munkres.proofs.step.run_steps.Goals as goal

pub steps-init : goal.steps-init
steps-init c = coming_here c.requires

pub returns : goal.returns
returns c = came c.steps.invariant (sym c.is_over.ensures ∙ c.steps-test.false)

pub step-state-requires : goal.step-state-requires
step-state-requires c = c.steps.invariant.good

pub steps-smaller : goal.steps-smaller
steps-smaller c =
    coming_falls c.step-state.ensures c.steps.invariant (sym c.is_over.ensures ∙ c.steps-test.true)

pub steps-preserved : goal.steps-preserved
steps-preserved c = coming_next c.step-state.ensures c.steps.invariant
