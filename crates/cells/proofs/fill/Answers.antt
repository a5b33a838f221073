-- `fill` meets its contract: the rows so far are done in both buffers.
use Rattle.std.proofs.Common.{refl}
use Rattle.lines.proofs.Rows.{rows_more, rows_filled}
use Rattle.cells.proofs.fill.Goals as goal

pub loop-row-preserved : goal.loop-row-preserved
loop-row-preserved c =
    let f = c.requires in
    let done = c.loop-row.invariant in
    let below = c.loop-row-test.true in
    record {
      costs_done = rows_more _ _ _ _ _ _ _ _ f.costs_long below (λ j x. refl) c.fill_row.ensures.0 done.costs_done;
      mask_done = rows_more _ _ _ _ _ _ _ _ f.mask_long below (λ j x. refl) c.fill_row.ensures.1 done.mask_done;
    }

pub returns : goal.returns
returns c =
    let f = c.requires in
    let done = c.loop-row.invariant in
    let all = c.loop-row-test.false in
    (rows_filled _ _ _ _ _ _ f.costs_long all done.costs_done, rows_filled _ _ _ _ _ _ f.mask_long all done.mask_done)
