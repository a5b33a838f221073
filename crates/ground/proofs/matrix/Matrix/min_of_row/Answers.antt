-- `Matrix::min_of_row` meets its contract: the least allowed cost of the columns so far.
use borrow.Author.Rules.{rules}
use mathlib.Core.Path.{◌∙◌}
use Prim.Native.Nat.{◌*◌, ◌+◌}
use native.Mathlib.Omega.{arith}
use lib.IntN.{pos}
use lib.ListN.{get_or}
use mir.Syntax.{w32}
use mir.Val.{SFits}
use Rattle.lines.specs.Bounds.{Within}
use Rattle.steps.specs.Lent.{cost_at}
use Rattle.ground.specs.Least.{least_from}
use Rattle.lines.proofs.Bounds.{row_end}
use Rattle.steps.proofs.Masks.{allows_yes, allows_no}
use Rattle.ground.proofs.Wide.{wide_back, wide_within}
use Rattle.ground.proofs.Values.{from_take, from_skip, lesser_holds}
use Rattle.ground.proofs.matrix.Matrix.min_of_row.Goals as goal
use Rattle.ground.proofs.matrix.Matrix.min_of_row.Goals.{then-mask-start-eq1, else-mask-start-eq1}

pub loop-column-init : goal.loop-column-init
unfolding least_from
loop-column-init c = (search rules, λ z e. cc)

pub loop-column-preserved : goal.loop-column-preserved
unfolding cost_at
loop-column-preserved c =
    let m = c.args.self in
    let l = c.loop-column in
    let end = row_end _ _ c.requires.below in
    let z = cost_at m.n m.costs.now c.args.row l.column in
    elim c.if-mask-start-eq1.branch [
      | then-mask-start-eq1 w ↦
          let f : SFits w32 (get_or m.costs.now (c.args.row * m.n + l.column) (pos 0)) = search rules in
          let takes = w.least-is ∙ w.lesser-least.ensures in (
            from_take _ _ _ _ _ _ _ l.invariant.0 (allows_yes _ _ _ _ (omega arith) w.if-mask-start-eq1.true) takes (rw w.from.ensures (wide_back z f.sfits)),
            lesser_holds (Within 2147483648) _ _ _ takes (rw w.from.ensures (wide_within z f.sfits)) l.invariant.1,
          )
      | else-mask-start-eq1 w ↦ (
        from_skip _ _ _ _ _ _ l.invariant.0 (allows_no _ _ _ _ (omega arith) w.if-mask-start-eq1.false) w.least-is,
        rw w.least-is l.invariant.1,
      )
    ]
