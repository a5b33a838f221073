-- `put_case_above` meets its contract, by whether the list is short.
use Rattle.text.specs.Ascii.{ascii}
use Rattle.text.proofs.PutLaws.{◌▸◌, puts_none}
use Rattle.price_list.specs.Report.{case_above}
use Rattle.price_list.proofs.print.put_case_above.Goals as goal

pub returns-then-short : goal.returns-then-short
unfolding case_above
returns-then-short c = rw c.if-short.true (puts_none _)

pub returns : goal.returns
unfolding case_above ascii
returns c = rw c.if-short.false (c.put_case.ensures ▸ c.put.ensures)
