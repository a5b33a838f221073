-- `put_counts` meets its contract, piece after piece.
use Rattle.text.specs.Ascii.{ascii}
use Rattle.text.proofs.PutLaws.{◌▸◌}
use Rattle.entries.specs.Lines.{counts}
use Rattle.entries.proofs.words.put_counts.Goals as goal

pub returns : goal.returns
unfolding counts ascii
returns c = c.put_counted.ensures ▸ c.put.ensures ▸ c.put_counted-2.ensures
