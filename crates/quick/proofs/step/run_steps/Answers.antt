-- `run_steps` goes from step to step (`Comes`), and what is left to do falls with each.
use mathlib.Core.Path.{sym, ◌∙◌}
use Rattle.ground.proofs.Arms.{coming_here, coming_next, coming_falls, came}
use Rattle.quick.proofs.Comings.{good}
use Rattle.quick.proofs.step.run_steps.Goals as goal

pub steps-init : goal.steps-init
steps-init c = record { coming = coming_here (good c.requires); held = c.requires }

pub step-state-requires : goal.step-state-requires
step-state-requires c = c.steps.invariant.held

pub steps-smaller : goal.steps-smaller
steps-smaller c =
    coming_falls c.step-state.ensures.made c.steps.invariant.coming (sym c.is_over.ensures ∙ c.steps-test.true)

pub steps-preserved : goal.steps-preserved
steps-preserved c = record { coming = coming_next c.step-state.ensures.made c.steps.invariant.coming; held = c.step-state.ensures.held }

pub returns : goal.returns
returns c =
    let x = c.steps.invariant in
    record { came = came x.coming (sym c.is_over.ensures ∙ c.steps-test.false); held = x.held }
