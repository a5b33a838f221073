-- `put_since` meets its contract, piece after piece.
use Rattle.text.specs.Ascii.{ascii}
use Rattle.text.proofs.PutLaws.{◌▸◌}
use Rattle.shortage.specs.Block.{since}
use Rattle.shortage.proofs.block.put_since.Goals as goal

pub returns : goal.returns
unfolding since ascii
returns c = c.put_these.ensures ▸ c.put_event_names.ensures ▸ c.put.ensures ▸ c.put_number.ensures ▸ c.put-2.ensures
