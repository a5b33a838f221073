-- `put_reason` meets its contract, piece after piece.
use Rattle.text.specs.Ascii.{ascii}
use Rattle.text.proofs.PutLaws.{◌▸◌}
use Rattle.spares.specs.Spares.{reason}
use Rattle.spares.proofs.put_reason.Goals as goal

pub returns : goal.returns
unfolding reason ascii
returns c = c.put.ensures ▸ c.put-2.ensures ▸ c.put_sum.ensures ▸ c.put-3.ensures
