-- `Run::reaching` gives the definition's run.
use mathlib.Core.Path.{refl}
use Rattle.steps.specs.Steps.{reaching}
use Rattle.ground.proofs.run.Run.reaching.Goals as goal

pub returns : goal.returns
unfolding reaching
returns c = refl
