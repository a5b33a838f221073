-- `mark_matrix::clear_primes` meets its contract: the marks that the loop has passed are cleared, and the others as they were.
use native.Mathlib.Omega.{arith}
use borrow.Author.Tests.{eq-eqb, ne_eqb}
use Rattle.lines.proofs.Loops.{passed_none, passed_store, passed_all}
use Rattle.steps.specs.Steps.{clear_primes}
use Rattle.matrices.proofs.mark_matrix.clear_primes.Goals as goal
use Rattle.matrices.proofs.mark_matrix.clear_primes.Goals.{then-mark-eq-PRIME, else-mark-eq-PRIME}

pub loop-mark-init : goal.loop-mark-init
loop-mark-init c = passed_none 0 _ _

pub loop-mark-preserved : goal.loop-mark-preserved
loop-mark-preserved c =
    let l = c.loop-mark in
    let same = l.invariant.left l.mark-index (omega arith) in
    elim c.if-mark-eq-PRIME.branch [
      | then-mark-eq-PRIME w ↦ rw w.marks-is (passed_store 0 _ _ l.marks l.mark-index 0 (omega (arith, l.invariant.long)) (rw (← same, eq-eqb _ _ w.if-mark-eq-PRIME.true)) l.invariant)
      | else-mark-eq-PRIME w ↦ rw w.marks-is (passed_store 0 _ _ l.marks l.mark-index _ (omega (arith, l.invariant.long)) (rw (← same, ne_eqb _ _ w.if-mark-eq-PRIME.false)) l.invariant)
    ]

pub shape_of-marks : goal.shape_of-marks
shape_of-marks c = c.loop-mark.invariant.long

pub returns : goal.returns
unfolding clear_primes
returns c = passed_all 0 _ _ _ _ (omega (arith, c.loop-mark.invariant.long)) c.loop-mark.invariant
