-- `find_bad_cost` meets its contract: each cell that the loop passed is forbidden, or its cost is in range.
use mathlib.Core.Path.{sym, ◌∙◌}
use borrow.Author.Rules.{rules}
use lib.IntN.{pos}
use lib.ListN.{get_or}
use mir.Facts.{to_z-of_z}
use mir.Syntax.{w32}
use mir.Val.{SFits}
use Rattle.lines.proofs.Loops.{missed_more, found_hit, found_miss}
use Rattle.steps.proofs.Masks.{cost_is}
use Rattle.rules.proofs.JudgeLaws.{none_there}
use Rattle.rules.proofs.search.find_bad_cost.Goals as goal

pub returns-then-not-has_bad_cost : goal.returns-then-not-has_bad_cost
returns-then-not-has_bad_cost c = none_there _ _ (sym c.has_bad_cost.ensures ∙ c.if-not-has_bad_cost.true)

pub returns-then-is_bad_cost : goal.returns-then-is_bad_cost
returns-then-is_bad_cost c =
    let f : SFits w32 (get_or c.args.costs.now c.loop-place.place (pos 0)) = search rules in
    let tested = cost_is _ _ c.loop-place-test.true _ ∙ sym (rw (to_z-of_z f) at c.is_bad_cost.ensures) in
    found_hit _ c.loop-place-test.true (tested ∙ c.if-is_bad_cost.true) c.loop-place.invariant

pub loop-place-preserved : goal.loop-place-preserved
loop-place-preserved c =
    let f : SFits w32 (get_or c.args.costs.now c.loop-place.place (pos 0)) = search rules in
    let tested = cost_is _ _ c.loop-place-test.true _ ∙ sym (rw (to_z-of_z f) at c.is_bad_cost.ensures) in
    missed_more (tested ∙ c.if-is_bad_cost.false) c.loop-place.invariant

pub returns : goal.returns
returns c = found_miss _ c.loop-place-test.false c.loop-place.invariant
