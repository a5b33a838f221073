-- `put_unfit_rows` meets its contract: after so many rows their lines are put.
use lib.ListN.{get_or}
use Rattle.text.specs.Puts.{Puts}
use Rattle.entries.specs.Lines.{each_line}
use Rattle.case_words.specs.Unfit.{unfit_row, row_fits}
use Rattle.case_words.proofs.unfit.put_unfit_rows.Given as goal

abbrev pub invariant-loop-row : goal.invariant-loop-row
invariant-loop-row l = Puts l.initial.text (each_line (λ i. unfit_row (row_fits l.solved.n l.solved.mask i) i (get_or l.solved.huts i 0)) l.row) l.text
