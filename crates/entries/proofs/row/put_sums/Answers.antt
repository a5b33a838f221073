-- `put_sums` meets its contract, piece after piece.
use Rattle.text.specs.Numbers.{blanks}
use Rattle.text.proofs.PutLaws.{◌▸◌}
use Rattle.entries.specs.Lines.{sums_line}
use Rattle.entries.proofs.row.put_sums.Goals as goal

pub returns : goal.returns
unfolding sums_line blanks
returns c = c.put.ensures ▸ c.put_prices.ensures ▸ c.put-2.ensures
