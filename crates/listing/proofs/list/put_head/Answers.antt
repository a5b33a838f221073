-- `put_head` meets its contract, piece after piece.
use Rattle.text.specs.Ascii.{ascii}
use Rattle.text.proofs.PutLaws.{◌▸◌}
use Rattle.listing.specs.List.{head}
use Rattle.listing.proofs.list.put_head.Goals as goal

pub returns : goal.returns
unfolding head ascii
returns c = c.put.ensures ▸ c.put_size.ensures ▸ c.put-2.ensures ▸ c.put-3.ensures
