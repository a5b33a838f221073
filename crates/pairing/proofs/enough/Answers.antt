-- `enough` is the budget.
use Rattle.std.proofs.Common.{refl}
use Rattle.pairing.specs.Pair.{enough}
use Rattle.pairing.proofs.enough.Goals as goal

pub returns : goal.returns
unfolding enough
returns c = rw c.saturating_sub.ensures refl
