-- `fill_row` meets its contract: the row's columns so far are done in both buffers.
use Rattle.std.proofs.Common.{◌∙◌, ap, arith, w32, ◌+◌, ◌<◌, get_or, length}
use Rattle.judgement.specs.View.{view_scan}
use Rattle.judgement.specs.Numbers.{u16_at, u32_at}
use Rattle.lines.proofs.Rows.{row_store, row_all}
use Rattle.lines.proofs.Wide.{back}
use Rattle.cells.proofs.CellLaws.{cell_is, byte_of}
use Rattle.cells.proofs.fill_row.Goals as goal

pub loop-column-preserved : goal.loop-column-preserved
loop-column-preserved c =
    let a = c.args in
    let done = c.loop-column.invariant in
    let rows = c.as_slice.ensures in
    let columns = c.as_slice-event-items.ensures in
    let all = ap length columns ∙ c.requires.0.all_columns in
    let below : c.loop-column.column < a.scan.now.n = omega (arith, c.loop-column-test.true, all) in
    let cell = cell_is a.file.now (view_scan a.scan.now) a.row c.loop-column.column
    (c.read-area.ensures ∙ ap (λ l. u16_at a.file.now (get_or l a.row 0 + 3)) rows)
    (c.read-clock.ensures ∙ ap (λ l. u32_at a.file.now (get_or l a.row 0 + 5)) rows)
    (c.read-in-loop-column.ensures ∙ ap (λ l. u16_at a.file.now (get_or l c.loop-column.column 0 + 1)) columns)
    (c.read.ensures ∙ ap (λ l. u32_at a.file.now (get_or l c.loop-column.column 0 + 3)) columns)
    c.abs_diff-error.ensures c.may_pair-allowed.ensures in
    record {
      fits = done.fits;
      costs_done = row_store _ _ _ _ _ _ _ _ below (omega (arith, done.fits.end, done.costs_done.row.long, c.requires.0.costs_long))
          (back w32 c.cost_of.result c.cost_of.type_inv ∙ c.cost_of.ensures ∙ cell.0) done.costs_done;
      mask_done = row_store _ _ _ _ _ _ _ _ below (omega (arith, done.fits.end, done.mask_done.row.long, c.requires.0.mask_long))
          (c.from.ensures ∙ byte_of c.may_pair-allowed.result ∙ cell.1) done.mask_done;
    }

pub returns : goal.returns
returns c =
    let done = c.loop-column.invariant in
    let all = ap length c.as_slice-event-items.ensures ∙ c.requires.0.all_columns in (
      row_all _ _ _ _ _ _ _ c.requires.1 (omega (arith, c.loop-column-test.false, all)) done.costs_done,
      row_all _ _ _ _ _ _ _ c.requires.1 (omega (arith, c.loop-column-test.false, all)) done.mask_done,
    )
