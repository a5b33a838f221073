-- `Path::empty` meets its contract: the first 0 places are none.
use mathlib.Core.Path.{refl}
use Rattle.matrices.specs.Path.{zipped}
use Rattle.matrices.proofs.path.Path.empty.Goals as goal

pub returns : goal.returns
unfolding zipped
returns c = refl
