-- `step_3` gives the definition's run. The loop's invariant: the columns of the stars of the rows so far, and how many there are.
use Rattle.munkres.proofs.StarLaws.{Gathered}
use Rattle.munkres.proofs.step.step_3.Given as goal

abbrev pub invariant-loop-row : goal.invariant-loop-row
invariant-loop-row l = Gathered l.n l.marks l.columns l.stars l.row
