-- `put_unfit_row` meets its contract, by whether it fits.
use Rattle.text.specs.Ascii.{ascii}
use Rattle.text.proofs.PutLaws.{◌▸◌, puts_none}
use Rattle.case_words.specs.Unfit.{unfit_row}
use Rattle.case_words.proofs.unfit.put_unfit_row.Goals as goal

pub returns-then-fits : goal.returns-then-fits
unfolding unfit_row
returns-then-fits c = rw c.if-fits.true (puts_none _)

pub returns : goal.returns
unfolding unfit_row ascii
returns c = rw c.if-fits.false (c.put.ensures ▸ c.put_number.ensures ▸ c.put-2.ensures ▸ c.put_number-2.ensures ▸ c.put-3.ensures)
