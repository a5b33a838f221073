-- `find_dead_row` meets its contract: each row that the loop passed has an allowed cell.
use Rattle.lines.proofs.Loops.{Missed}
use Rattle.steps.specs.Refusal.{dead_row}
use Rattle.rules.proofs.search.find_dead_row.Given as goal

abbrev pub invariant-loop-row : goal.invariant-loop-row
invariant-loop-row l = Missed (dead_row l.n l.mask) l.row
