-- `mark_matrix::clear_primes` meets its contract: the marks that the loop has passed are cleared, and the others as they were.
use mathlib.Core.Bool.{cond}
use lib.Dec.{eqb}
use Rattle.lines.proofs.Loops.{Passed}
use Rattle.matrices.proofs.mark_matrix.clear_primes.Given as goal

abbrev pub invariant-loop-mark : goal.invariant-loop-mark
invariant-loop-mark l = Passed 0 (λ q m. cond (eqb m 2) 0 m) l.initial.marks l.marks l.mark-index
