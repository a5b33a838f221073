-- `put_size` meets its contract, piece after piece.
use Rattle.text.specs.Ascii.{ascii}
use Rattle.text.proofs.PutLaws.{◌▸◌}
use Rattle.entries.specs.Lines.{size}
use Rattle.entries.proofs.words.put_size.Goals as goal

pub returns : goal.returns
unfolding size ascii
returns c = c.put_counts.ensures ▸ c.put.ensures ▸ c.put_number.ensures ▸ c.put-2.ensures
