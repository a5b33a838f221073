-- `put_rows` meets its contract: after so many rows their lines are put.
use lib.ListN.{get_or}
use Rattle.text.specs.Puts.{Puts}
use Rattle.entries.specs.Lines.{each_line}
use Rattle.case_words.specs.Case.{row_line}
use Rattle.case_words.proofs.table.put_rows.Given as goal

abbrev pub invariant-loop-row : goal.invariant-loop-row
invariant-loop-row l = Puts l.initial.text (each_line (λ i. row_line i (get_or l.huts i 0) (get_or l.areas i 0) (get_or l.clocks i 0)) l.row) l.text
