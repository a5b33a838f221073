-- `put_these` meets its contract, by the count.
use borrow.Author.Tests.{eq-eqb, ne_eqb}
use Rattle.text.specs.Ascii.{ascii}
use Rattle.text.proofs.PutLaws.{◌▸◌}
use Rattle.shortage.specs.Block.{these}
use Rattle.shortage.proofs.block.put_these.Goals as goal

pub returns-then-count-eq1 : goal.returns-then-count-eq1
unfolding these ascii
returns-then-count-eq1 c = rw (eq-eqb _ _ c.if-count-eq1.true) (c.put.ensures ▸ c.put-then-count-eq1.ensures)

pub returns : goal.returns
unfolding these ascii
returns c = rw (ne_eqb _ _ c.if-count-eq1.false) (c.put-2.ensures ▸ c.put_counted.ensures)
