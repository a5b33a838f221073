-- `Run::augmenting` gives the definition's run.
use mathlib.Core.Path.{refl}
use Rattle.steps.specs.Steps.{augmenting}
use Rattle.ground.proofs.run.Run.augmenting.Goals as goal

pub returns : goal.returns
unfolding augmenting
returns c = refl
