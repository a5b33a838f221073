-- `put_rows` meets its contract: after so many rows their lines are put.
use Rattle.text.specs.Puts.{Puts}
use Rattle.valley.specs.Lines.{row_lines}
use Rattle.valley.proofs.print.put_rows.Given as goal

abbrev pub invariant-loop-row : goal.invariant-loop-row
invariant-loop-row l = Puts l.initial.text (row_lines l.huts l.columns l.row) l.text
