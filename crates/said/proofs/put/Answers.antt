-- `put` meets its contract: the places that the loop has passed are written, and the others as they were.
use Rattle.std.proofs.Common.{arith}
use Rattle.lines.proofs.Loops.{passed_all}
use Rattle.said.proofs.put.Goals as goal

pub returns : goal.returns
returns g c = let done = c.loop-line.invariant in passed_all _ _ _ _ _ (omega (arith, c.loop-line-test.false, done.long)) done
