-- `put_every_pair` meets its contract: after so many cells their lines are put.
use Rattle.text.specs.Puts.{Puts}
use Rattle.entries.specs.Lines.{each_line}
use Rattle.spares.specs.Spares.{cell_line}
use Rattle.spares.proofs.put_every_pair.Given as goal

abbrev pub invariant-loop-place : goal.invariant-loop-place
invariant-loop-place l =
    let s = l.solved in
    Puts l.initial.text (each_line (cell_line s.n s.costs s.mask s.working s.row_prices s.column_prices) l.place) l.text
