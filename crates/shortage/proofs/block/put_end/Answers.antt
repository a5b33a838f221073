-- `put_end` meets its contract, by what is left.
use borrow.Author.Tests.{eq-eqb, ne_eqb}
use Rattle.text.specs.Ascii.{ascii}
use Rattle.text.proofs.PutLaws.{◌▸◌}
use Rattle.shortage.specs.Block.{end_words}
use Rattle.shortage.proofs.block.put_end.Goals as goal

pub returns-then-left-eq0 : goal.returns-then-left-eq0
unfolding end_words ascii
returns-then-left-eq0 c = rw (eq-eqb _ _ c.if-left-eq0.true) (c.put.ensures)

pub returns : goal.returns
unfolding end_words ascii
returns c = rw (ne_eqb _ _ c.if-left-eq0.false) (c.put_counted.ensures ▸ c.put-2.ensures ▸ c.put_counted-2.ensures ▸ c.put-3.ensures)
