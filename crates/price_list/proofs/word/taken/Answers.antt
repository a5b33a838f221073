-- `taken` meets its contract, by the number of words.
use borrow.Author.Tests.{eq-eqb, ne_eqb, lt-ltb, le-ltb}
use Rattle.price_list.specs.Word.{taken}
use Rattle.price_list.proofs.word.taken.Goals as goal

pub returns-then-words-lt2 : goal.returns-then-words-lt2
unfolding taken
returns-then-words-lt2 c = rw (lt-ltb _ _ c.if-words-lt2.true)

pub returns-then-words-eq2 : goal.returns-then-words-eq2
unfolding taken
returns-then-words-eq2 c = rw (le-ltb _ _ c.if-words-lt2.false, eq-eqb _ _ c.if-words-eq2.true)

pub returns-else-words-eq2 : goal.returns-else-words-eq2
unfolding taken
returns-else-words-eq2 c = rw (le-ltb _ _ c.if-words-lt2.false, ne_eqb _ _ c.if-words-eq2.false)
