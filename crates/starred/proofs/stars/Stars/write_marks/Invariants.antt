-- `Stars::write_marks` puts prime and star of row after row into an empty square (`Marking`).
use Rattle.starred.proofs.Markings.{Marking}
use Rattle.starred.proofs.stars.Stars.write_marks.Given as goal

abbrev pub invariant-loop-row : goal.invariant-loop-row
invariant-loop-row l = Marking l.n l.self.star l.self.prime l.marks l.row
