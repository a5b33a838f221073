-- `check_rows` is rule 1.
use borrow.Author.Tests.{eq-eqb, ne_eqb}
use Rattle.rules.proofs.JudgeLaws.{says, silent}
use Rattle.rules.proofs.check_rows.Goals as goal

pub returns-then-n-eq0 : goal.returns-then-n-eq0
returns-then-n-eq0 c = says _ (eq-eqb _ 0 c.if-n-eq0.true)

pub returns : goal.returns
returns c = silent _ (ne_eqb _ 0 c.if-n-eq0.false)
