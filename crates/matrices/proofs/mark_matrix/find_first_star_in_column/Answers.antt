-- `mark_matrix::find_first_star_in_column` meets its contract: the loop has missed a star in each row that it passed.
use borrow.Author.Tests.{eq-eqb}
use Rattle.lines.proofs.Loops.{found_hit, found_miss}
use Rattle.steps.specs.Steps.{star_in_column}
use Rattle.matrices.proofs.mark_matrix.find_first_star_in_column.Goals as goal

pub returns-then-marks-row-eq-STAR : goal.returns-then-marks-row-eq-STAR
unfolding star_in_column
returns-then-marks-row-eq-STAR c = found_hit _ c.loop-row-test.true (eq-eqb _ _ c.if-marks-row-eq-STAR.true) c.loop-row.invariant

pub returns : goal.returns
unfolding star_in_column
returns c = found_miss _ c.loop-row-test.false c.loop-row.invariant
