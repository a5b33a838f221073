-- `Run::covering` gives the definition's run.
use Rattle.steps.specs.Steps.{covering}
use Rattle.ground.proofs.run.Run.covering.Goals as goal

pub returns : goal.returns
unfolding covering
returns c = rw (c.cover.ensures, c.uncover.ensures)
