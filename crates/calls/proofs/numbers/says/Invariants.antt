-- `says` says yes only where each turn found the number that is said.
use Rattle.calls.proofs.Saying.{SaysBelow}
use Rattle.calls.proofs.numbers.says.Given as goal

abbrev pub invariant-loop-i : goal.invariant-loop-i
invariant-loop-i g l = SaysBelow g.T.Into.converts l.said l.start l.numbers l.i
