-- `find_bad_cost` meets its contract: each cell that the loop passed is forbidden, or its cost is in range.
use Rattle.lines.proofs.Loops.{Missed}
use Rattle.steps.specs.Refusal.{bad_cost}
use Rattle.rules.proofs.search.find_bad_cost.Given as goal

abbrev pub invariant-loop-place : goal.invariant-loop-place
invariant-loop-place l = Missed (bad_cost l.costs l.mask) l.place
