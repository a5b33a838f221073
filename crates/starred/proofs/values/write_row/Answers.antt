-- `values::write_row` writes the working values of a row, column by column (`RowPassed`).
use mathlib.Core.Path.{◌∙◌}
use native.Mathlib.Omega.{arith}
use Prim.Native.Nat.{◌<◌}
use lib.IntN.{pos}
use lib.ListN.{get_or}
use mir.Syntax.{w32, w64}
use mir.Val.{SFits}
use mir.Facts.{to_z-of_z}
use Rattle.lines.proofs.Rows.{row_store, row_all}
use Rattle.steps.specs.Lent.{cost_at}
use Rattle.steps.proofs.Masks.{allows_yes, allows_no}
use Rattle.starred.proofs.Differences.{second_fits, both_off}
use borrow.Author.Rules.{rules}
use Rattle.starred.proofs.values.write_row.Goals as goal
use Rattle.starred.proofs.values.write_row.Goals.{then-mask-place-eq1, else-mask-place-eq1}

pub difference-above-requires : goal.difference-above-requires
unfolding cost_at
difference-above-requires c =
    let a = c.args in
    let m = a.matrix in
    let l = c.loop-column in
    let h : l.column < m.n = omega arith in
    let x = cost_at m.n m.costs.now a.row l.column in
    let q = get_or a.column_prices.now l.column (pos 0) in
    let f : SFits w32 x = search rules in
    let g : SFits w64 q = search rules in
    let d = c.difference-above_row in
    second_fits x a.price q c.from.result f.sfits c.from.type_inv c.from.ensures c.ranges.price c.requires.price_within (c.requires.column_within l.column h) d.result d.type_inv g.sfits d.ensures

pub loop-column-preserved : goal.loop-column-preserved
unfolding cost_at
loop-column-preserved c =
    let a = c.args in
    let m = a.matrix in
    let l = c.loop-column in
    let h : l.column < m.n = omega arith in
    let x = cost_at m.n m.costs.now a.row l.column in
    let q = get_or a.column_prices.now l.column (pos 0) in
    let f : SFits w32 x = search rules in
    let g : SFits w64 q = search rules in
    let d = c.difference-above_row in
    let above =
    both_off x a.price q c.from.result f.sfits c.from.type_inv c.from.ensures c.ranges.price c.requires.price_within (c.requires.column_within l.column h) _ d.type_inv g.sfits d.ensures _ c.difference-above.type_inv c.difference-above.ensures in
    let allowed = allows_yes m.n m.mask.now a.row l.column (omega arith) in
    let forbidden = allows_no m.n m.mask.now a.row l.column (omega arith) in (
      l.invariant.0,
      row_store _ _ _ _ _ _ _ _ h (omega (arith, l.invariant.0))
          (elim c.if-mask-place-eq1.branch [
            | then-mask-place-eq1 w ↦ w.working-is ∙ above ∙ rw (allowed w.if-mask-place-eq1.true, to_z-of_z c.ranges.price)
            | else-mask-place-eq1 w ↦ w.working-is ∙ rw (forbidden w.if-mask-place-eq1.false)
          ])
          l.invariant.1,
    )

pub returns : goal.returns
returns c =
    rw (to_z-of_z c.ranges.price) at (row_all _ _ _ _ _ _ _ c.requires.below (omega arith) c.loop-column.invariant.1)
