-- `weight_matrix::sub_row` meets its contract: the row's columns so far are done (`RowPassed`).
use borrow.Author.Rules.{rules}
use native.Mathlib.Omega.{arith}
use mir.Syntax.{w32}
use mir.Val.{SFits}
use mir.Facts.{to_z-of_z}
use Rattle.lines.proofs.Rows.{row_none, row_store, row_all}
use Rattle.steps.specs.Lent.{cost_at}
use Rattle.lines.proofs.Bounds.{row_end}
use Rattle.steps.proofs.Masks.{allows_yes, allows_no}
use Rattle.ground.proofs.Wide.{excess_fits, excess_back}
use Rattle.matrices.proofs.weight_matrix.sub_row.Goals as goal
use Rattle.matrices.proofs.weight_matrix.sub_row.Goals.{then-mask-place-eq1, else-mask-place-eq1}

pub overflow_mul-start : goal.overflow_mul-start
overflow_mul-start c = let f = row_end _ _ c.requires.in_row.below in omega arith

pub loop-column-init : goal.loop-column-init
loop-column-init c = (row_end _ _ c.requires.in_row.below, search rules, row_none _ _ _ _ _ c.requires.in_row.below)

pub overflow_sub-working : goal.overflow_sub-working
unfolding cost_at
overflow_sub-working c =
    let m = c.args.matrix in
    let x = cost_at m.n m.costs.now c.args.row c.loop-column.column in
    let f : SFits w32 x = search rules in
    rw c.from.ensures (excess_fits x c.args.price f.sfits c.requires.small)

pub loop-column-preserved : goal.loop-column-preserved
unfolding cost_at
loop-column-preserved c =
    let m = c.args.matrix in
    let l = c.loop-column in
    let x = cost_at m.n m.costs.now c.args.row l.column in
    let ok = allows_yes m.n m.mask.now c.args.row l.column (omega arith) in
    let no_ok = allows_no m.n m.mask.now c.args.row l.column (omega arith) in (
      search rules,
      search rules,
      elim c.if-mask-place-eq1.branch [
        | then-mask-place-eq1 w ↦ let f : SFits w32 x = search rules in
            rw w.working-is (row_store _ _ _ _ _ _ _ _ (omega arith) (omega arith)
            (rw (w.from.ensures, ok w.if-mask-place-eq1.true) (excess_back x c.args.price f.sfits c.requires.small)) l.invariant.2)
        | else-mask-place-eq1 w ↦ rw w.working-is (row_store _ _ _ _ _ _ _ _ (omega arith) (omega arith) (rw (no_ok w.if-mask-place-eq1.false)) l.invariant.2)
      ],
    )

pub returns : goal.returns
returns c =
    rw (to_z-of_z c.ranges.price) at (row_all _ _ _ _ _ _ _ c.requires.in_row.below (omega arith) c.loop-column.invariant.2)
