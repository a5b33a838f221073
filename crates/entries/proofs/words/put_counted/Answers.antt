-- `put_counted` meets its contract, piece after piece.
use Rattle.text.specs.Ascii.{ascii}
use Rattle.text.proofs.PutLaws.{◌▸◌}
use Rattle.entries.specs.Lines.{counted}
use Rattle.entries.proofs.words.put_counted.Goals as goal

pub returns : goal.returns
unfolding counted ascii
returns c = c.put_number.ensures ▸ c.put.ensures ▸ c.put-2.ensures ▸ c.put_plural.ensures
