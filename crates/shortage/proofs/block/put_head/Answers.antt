-- `put_head` meets its contract, piece after piece.
use Rattle.text.specs.Ascii.{ascii}
use Rattle.text.proofs.PutLaws.{◌▸◌}
use Rattle.shortage.specs.Block.{head}
use Rattle.shortage.proofs.block.put_head.Goals as goal

pub returns : goal.returns
unfolding head ascii
returns c = c.put.ensures ▸ c.put_size.ensures ▸ c.put-2.ensures
