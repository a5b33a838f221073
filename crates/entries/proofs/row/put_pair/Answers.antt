-- `put_pair` meets its contract, piece after piece.
use Rattle.text.proofs.PutLaws.{◌▸◌}
use Rattle.entries.specs.Lines.{pair_line}
use Rattle.entries.proofs.row.put_pair.Goals as goal

pub returns : goal.returns
unfolding pair_line
returns c = c.put_right.ensures ▸ c.put_right-2.ensures ▸ c.put_right-3.ensures ▸ c.put_prices.ensures ▸ c.put.ensures
