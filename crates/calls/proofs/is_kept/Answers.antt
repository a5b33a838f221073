-- What both solvers keep is kept.
use Rattle.calls.proofs.Saying.{both}
use Rattle.calls.proofs.is_kept.Goals as goal

pub returns : goal.returns
returns c = λ e. let t = both c.is_kept_by.result c.is_kept_by-2.result e in c.is_kept_by-2.ensures t.1
