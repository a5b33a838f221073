-- `put_row` meets its contract, piece after piece.
use Rattle.text.specs.Ascii.{ascii}
use Rattle.text.proofs.PutLaws.{◌▸◌}
use Rattle.case_words.specs.Case.{row_line}
use Rattle.case_words.proofs.line.put_row.Goals as goal

pub returns : goal.returns
unfolding row_line ascii
returns c = c.put_right.ensures ▸ c.put_right-2.ensures ▸ c.put_right-3.ensures ▸ c.put_right-4.ensures ▸ c.put.ensures
