-- `Run::adjusting` gives the definition's run.
use mathlib.Core.Path.{refl}
use Rattle.steps.specs.Steps.{adjusting}
use Rattle.ground.proofs.run.Run.adjusting.Goals as goal

pub returns : goal.returns
unfolding adjusting
returns c = refl
