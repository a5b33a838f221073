-- `mark_matrix::find_first_star_in_column` meets its contract: the loop has missed a star in each row that it passed.
use lib.Dec.{eqb}
use Rattle.lines.specs.Square.{cell}
use Rattle.lines.proofs.Loops.{Missed}
use Rattle.matrices.proofs.mark_matrix.find_first_star_in_column.Given as goal

abbrev pub invariant-loop-row : goal.invariant-loop-row
invariant-loop-row l = Missed (λ i. eqb (cell 0 l.n l.marks i l.column) 1) l.row
