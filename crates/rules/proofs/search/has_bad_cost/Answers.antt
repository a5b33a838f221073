-- `has_bad_cost` meets its contract: after each turn `bad` says whether a cell before was.
use mathlib.Core.Path.{sym, ◌∙◌}
use borrow.Author.Rules.{rules}
use lib.IntN.{pos}
use lib.ListN.{get_or}
use mir.Facts.{to_z-of_z}
use mir.Syntax.{w32}
use mir.Val.{SFits}
use Rattle.steps.proofs.Masks.{cost_is}
use Rattle.rules.proofs.JudgeLaws.{none_asked, asked_more}
use Rattle.rules.proofs.search.has_bad_cost.Goals as goal

pub loop-place-init : goal.loop-place-init
loop-place-init c = none_asked _

pub loop-place-preserved : goal.loop-place-preserved
loop-place-preserved c =
    let f : SFits w32 (get_or c.args.costs.now c.loop-place.place (pos 0)) = search rules in
    asked_more _ _ c.loop-place.invariant (rw (to_z-of_z f) at c.is_bad_cost-bad.ensures ∙ sym (cost_is _ _ c.loop-place-test.true _))
