-- `put_least` meets its contract, by whether the list is short.
use Rattle.text.proofs.PutLaws.{◌▸◌, puts_none}
use Rattle.spares.specs.Spares.{least_lines}
use Rattle.spares.proofs.put_least.Goals as goal

pub returns-then-short : goal.returns-then-short
unfolding least_lines
returns-then-short c = rw c.if-short.true (puts_none _)

pub returns : goal.returns
unfolding least_lines
returns c = rw c.if-short.false (c.put_reason.ensures ▸ c.put_every_pair.ensures)
