-- `put_plural` meets its contract, by the count.
use borrow.Author.Tests.{eq-eqb, ne_eqb}
use Rattle.text.specs.Ascii.{ascii}
use Rattle.text.proofs.PutLaws.{puts_none}
use Rattle.entries.specs.Lines.{plural}
use Rattle.entries.proofs.words.put_plural.Goals as goal

pub returns-then-count-ne1 : goal.returns-then-count-ne1
unfolding plural ascii
returns-then-count-ne1 c = rw (ne_eqb _ _ c.if-count-ne1.true) c.put.ensures

pub returns-else-count-ne1 : goal.returns-else-count-ne1
unfolding plural ascii
returns-else-count-ne1 c = rw (eq-eqb _ _ c.if-count-ne1.false) (puts_none _)
