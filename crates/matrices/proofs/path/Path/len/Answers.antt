-- `Path::len` meets its contract.
use Rattle.matrices.proofs.Zips.{recorded}
use Rattle.matrices.proofs.path.Path.len.Goals as goal

pub returns : goal.returns
returns c = recorded _ _ _ c.self.view_is
