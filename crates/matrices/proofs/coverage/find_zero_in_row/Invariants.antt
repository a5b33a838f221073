-- `coverage::find_zero_in_row` meets its contract: each column that the loop passed is taken, or has no zero in the row.
use mathlib.Core.Bool.{not, ◌&&◌}
use Rattle.lines.specs.Sets.{has}
use Rattle.lines.proofs.Loops.{Missed}
use Rattle.steps.specs.Lent.{allows}
use Rattle.steps.specs.Steps.{zero_at}
use Rattle.matrices.proofs.coverage.find_zero_in_row.Given as goal

abbrev pub invariant-loop-column : goal.invariant-loop-column
invariant-loop-column l = Missed (λ j. zero_at l.n (allows l.n l.mask) l.working l.row j && not (has l.taken j)) l.column
