-- `fill_row` meets its contract: the row's columns so far are done in both buffers.
use Rattle.judgement.specs.View.{view_scan}
use Rattle.cells.proofs.CellLaws.{RowDone}
use Rattle.cells.proofs.fill_row.Given as goal

abbrev pub invariant-loop-column : goal.invariant-loop-column
invariant-loop-column l = RowDone l.file (view_scan l.scan) l.row l.initial.costs l.costs l.initial.mask l.mask l.column
