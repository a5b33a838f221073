-- `BySteps::run` meets the trait's contract: the start is good, and the run from it comes to an end.
use Rattle.steps.specs.Lent.{cost_at}
use Rattle.munkres.proofs.ByStepsSteps.run.Goals as goal

pub run_steps-requires : goal.run_steps-requires
run_steps-requires c = let b = c.requires in rw c.start-begun.ensures record { cost = cost_at c.args.matrix.n c.args.matrix.costs.now; frame = b.frame; kept = b.kept }
