-- `step_2` gives the definition's marks. The loop's invariant: the marks are those after `row` rows, and the set holds the columns that have a star.
use Rattle.steps.specs.Lent.{allows}
use Rattle.munkres.proofs.StarLaws.{Taken}
use Rattle.munkres.proofs.step.step_2.Given as goal

abbrev pub invariant-loop-row : goal.invariant-loop-row
invariant-loop-row l = Taken l.matrix.n (allows l.matrix.n l.matrix.mask.now) l.working l.marks l.taken l.row
