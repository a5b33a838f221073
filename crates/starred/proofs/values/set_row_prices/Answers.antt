-- `values::set_row_prices` sets the prices of the rows so far (`Passed`).
use mathlib.Core.Path.{◌∙◌}
use Prim.Native.Nat.{◌+◌, ◌*◌}
use native.Mathlib.Omega.{arith}
use lib.IntN.{pos}
use lib.ListN.{get_or}
use mir.Syntax.{w32}
use mir.Val.{SFits}
use Rattle.lines.proofs.Loops.{passed_store, filled_all}
use Rattle.steps.specs.Lent.{cost_at}
use Rattle.starred.proofs.Differences.{widened}
use borrow.Author.Rules.{rules}
use Rattle.starred.proofs.values.set_row_prices.Goals as goal

pub loop-row-preserved : goal.loop-row-preserved
unfolding cost_at
loop-row-preserved c =
    let a = c.args in
    let l = c.loop-row in
    let f : SFits w32 (get_or a.matrix.costs.now (l.row * a.matrix.n + get_or a.cheapest.now l.row 0) (pos 0)) = search rules in
    passed_store _ _ _ _ _ _ (omega (arith, l.invariant.long)) (widened _ _ f.sfits c.from.type_inv c.from.ensures) l.invariant

pub returns : goal.returns
returns c =
    let l = c.loop-row in
    filled_all (pos 0) _ _ l.row_prices _ l.row (l.invariant.long ∙ c.requires.row_lines) (omega arith) l.invariant
