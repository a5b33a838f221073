-- `check_limit` is rule 2.
use borrow.Author.Tests.{lt-ltb, le-ltb}
use Rattle.rules.proofs.JudgeLaws.{says, silent}
use Rattle.rules.proofs.check_limit.Goals as goal

pub returns-then-limit-n : goal.returns-then-limit-n
returns-then-limit-n c = says _ (lt-ltb _ _ c.if-limit-n.true)

pub returns : goal.returns
returns c = silent _ (le-ltb _ _ c.if-limit-n.false)
