-- `put_rows` meets its contract: after so many rows their lines are put.
use Rattle.text.proofs.PutLaws.{◌▸◌, puts_none}
use Rattle.valley.specs.Lines.{row_lines}
use Rattle.valley.proofs.LineLaws.{rows_more}
use Rattle.valley.proofs.print.put_rows.Goals as goal

pub loop-row-init : goal.loop-row-init
unfolding row_lines
loop-row-init c = puts_none _

pub loop-row-preserved : goal.loop-row-preserved
loop-row-preserved c =
    let a = c.args in
    rw (rows_more a.huts.now a.columns.now c.loop-row.row _ _ c.of_row.ensures c.of_row-in-loop-row.ensures)
    (c.loop-row.invariant ▸ c.put_row.ensures)
