-- `put_fragments` meets its contract, piece after piece.
use Rattle.text.specs.Ascii.{ascii}
use Rattle.text.proofs.PutLaws.{◌▸◌}
use Rattle.shortage.specs.Block.{fragments}
use Rattle.shortage.proofs.block.put_fragments.Goals as goal

pub returns : goal.returns
unfolding fragments ascii
returns c = c.put_these.ensures ▸ c.put.ensures ▸ c.put_block_rows.ensures
