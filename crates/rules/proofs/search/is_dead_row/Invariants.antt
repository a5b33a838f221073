-- `is_dead_row` meets its contract: no cell that the loop passed is allowed.
use Rattle.lines.proofs.Loops.{Missed}
use Rattle.steps.specs.Lent.{allows}
use Rattle.rules.proofs.search.is_dead_row.Given as goal

abbrev pub invariant-loop-byte : goal.invariant-loop-byte
invariant-loop-byte l = Missed (allows l.n l.mask l.row) l.byte-index
