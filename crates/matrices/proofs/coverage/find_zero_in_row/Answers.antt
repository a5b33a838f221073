-- `coverage::find_zero_in_row` meets its contract: each column that the loop passed is taken, or has no zero in the row.
use mathlib.Core.Path.{sym, ◌∙◌}
use mathlib.Core.Bool.{and-false}
use Rattle.lines.proofs.Loops.{missed_more, found_hit, found_miss}
use Rattle.steps.specs.Lent.{allows}
use Rattle.steps.specs.Steps.{zero_at}
use Rattle.matrices.proofs.coverage.find_zero_in_row.Goals as goal
use Rattle.matrices.proofs.coverage.find_zero_in_row.Goals.{else-not-has-via-then-not-has+else-is_element_zero, else-not-has-via-else-not-has}

pub returns-then-is_element_zero : goal.returns-then-is_element_zero
unfolding zero_at allows
returns-then-is_element_zero c =
    found_hit _ c.loop-column-test.true
    (rw (sym c.is_element_zero.ensures ∙ c.if-is_element_zero.true, sym c.has.ensures ∙ c.if-not-has.true))
    c.loop-column.invariant

pub loop-column-preserved : goal.loop-column-preserved
unfolding zero_at allows
loop-column-preserved c =
    missed_more
    (elim c.else-not-has.branch [
      | else-not-has-via-then-not-has+else-is_element_zero w ↦ rw (sym w.is_element_zero.ensures ∙ w.if-is_element_zero.false)
      | else-not-has-via-else-not-has w ↦ rw (sym c.has.ensures ∙ w.if-not-has.false, and-false)
    ])
    c.loop-column.invariant

pub returns : goal.returns
returns c = found_miss _ c.loop-column-test.false c.loop-column.invariant
