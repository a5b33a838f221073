-- `fill` meets its contract: the rows so far are done in both buffers.
use Rattle.judgement.specs.View.{view_scan}
use Rattle.cells.proofs.CellLaws.{RowsDone}
use Rattle.cells.proofs.fill.Given as goal

abbrev pub invariant-loop-row : goal.invariant-loop-row
invariant-loop-row l = RowsDone l.file l.scan.n (view_scan l.scan) l.initial.costs l.costs l.initial.mask l.mask l.row
