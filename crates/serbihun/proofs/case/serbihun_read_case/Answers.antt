-- `serbihun_read_case` gives back what `read_case` gives, as one record.
use Rattle.serbihun.proofs.case.serbihun_read_case.Goals as goal

pub returns : goal.returns
returns c = rw c.from.ensures c.read_case.ensures
