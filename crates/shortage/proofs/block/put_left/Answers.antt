-- `put_left` meets its contract, by what is left.
use borrow.Author.Tests.{eq-eqb, ne_eqb}
use Rattle.text.specs.Ascii.{ascii}
use Rattle.shortage.specs.Block.{left_words}
use Rattle.shortage.proofs.block.put_left.Goals as goal

pub returns-then-left-eq0 : goal.returns-then-left-eq0
unfolding left_words ascii
returns-then-left-eq0 c = rw (eq-eqb _ _ c.if-left-eq0.true) (c.put.ensures)

pub returns : goal.returns
unfolding left_words ascii
returns c = rw (ne_eqb _ _ c.if-left-eq0.false) (c.put_event_names.ensures)
