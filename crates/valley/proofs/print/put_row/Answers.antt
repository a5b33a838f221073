-- `put_row` meets its contract, piece after piece.
use Rattle.text.proofs.PutLaws.{◌▸◌}
use Rattle.valley.specs.Lines.{row_line}
use Rattle.valley.proofs.print.put_row.Goals as goal

pub returns : goal.returns
unfolding row_line
returns c = c.put_number.ensures ▸ c.put.ensures ▸ c.put_number-2.ensures ▸ c.put-2.ensures
