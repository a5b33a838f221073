-- `find_bad_mask` meets its contract: no byte that the loop passed is above 1.
use Rattle.lines.proofs.Loops.{Missed}
use Rattle.steps.specs.Refusal.{bad_mask}
use Rattle.rules.proofs.search.find_bad_mask.Given as goal

abbrev pub invariant-loop-place : goal.invariant-loop-place
invariant-loop-place l = Missed (bad_mask l.mask) l.place
