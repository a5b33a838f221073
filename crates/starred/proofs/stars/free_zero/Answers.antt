-- `stars::free_zero` looks from column to column (`Missed`).
use mathlib.Core.Path.{sym, ◌∙◌}
use mathlib.Core.Bool.{not, ◌&&◌, and-false}
use native.Mathlib.Omega.{arith}
use lib.IntN.{◌-ℤ◌}
use mir.Syntax.{w64}
use mir.Val.{to_z, of_z}
use mir.Facts.{to_z-of_z}
use Rattle.lines.specs.Sets.{has}
use Rattle.lines.proofs.Loops.{missed_more, found_hit, found_miss}
use Rattle.steps.specs.Lent.{allows, cost_at}
use Rattle.steps.specs.Steps.{is_zero}
use Rattle.starred.proofs.stars.free_zero.Goals as goal
use Rattle.starred.proofs.stars.free_zero.Goals.{else-not-has-via-then-not-has+else-costs_price, else-not-has-via-else-not-has}

pub returns-then-costs_price : goal.returns-then-costs_price
unfolding allows cost_at
returns-then-costs_price c =
    let a = c.args in
    let m = a.matrix in
    rw (to_z-of_z c.ranges.price) at (found_hit {b = λ j. (allows m.n m.mask.now a.row j && is_zero (cost_at m.n m.costs.now a.row j -ℤ to_z w64 (of_z w64 a.price))) && not (has a.taken j)} m.n (omega arith)
    (rw (sym c.costs_price.ensures ∙ c.if-costs_price.true, sym c.has.ensures ∙ c.if-not-has.true))
    c.loop-column.invariant)

pub loop-column-preserved : goal.loop-column-preserved
unfolding allows cost_at
loop-column-preserved c =
    missed_more
    (elim c.else-not-has.branch [
      | else-not-has-via-then-not-has+else-costs_price w ↦ rw (sym w.costs_price.ensures ∙ w.if-costs_price.false)
      | else-not-has-via-else-not-has w ↦ rw (sym c.has.ensures ∙ w.if-not-has.false, and-false)
    ])
    c.loop-column.invariant

pub returns : goal.returns
returns c = rw (to_z-of_z c.ranges.price) at (found_miss c.args.matrix.n (omega arith) c.loop-column.invariant)
