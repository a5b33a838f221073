-- `step_6` meets its contract, by what was found: no uncovered value, a spent budget, or a value to adjust by.
use mathlib.Core.Path.{sym, ◌∙◌}
use Rattle.steps.specs.Steps.{lowest}
use Rattle.ground.specs.View.{view}
use Rattle.ground.proofs.Values.{value_found, value_none}
use Rattle.ground.proofs.Wide.{back}
use Rattle.ground.proofs.Adjusting.{step6_none, step6_spent, step6_adjusts}
use Rattle.munkres.proofs.step.step_6.Goals as goal

pub returns-in_default : goal.returns-in_default
unfolding lowest
returns-in_default c =
    step6_none _ _ _ (view c.args.run) _ _ _ (value_none _ _ _ (sym c.least_uncovered-least.ensures ∙ c.in_default.is)) c.to.ensures

pub returns-then-run-budget : goal.returns-then-run-budget
unfolding lowest
returns-then-run-budget c =
    let found = value_found _ _ _ _ (sym c.least_uncovered-least.ensures ∙ c.in-Some.is) in
    step6_spent _ _ _ (view c.args.run) _ _ _ found.0 c.if-run-budget.true c.to-then-run-budget.ensures

pub follow_prices-requires : goal.follow_prices-requires
unfolding lowest
follow_prices-requires c =
    let found = value_found _ _ _ _ (sym c.least_uncovered-least.ensures ∙ c.in-Some.is) in
    let adjusts = c.requires.adjusts c.if-run-budget.false found.0 in
    let change = back _ _ found.1 adjusts.change in
    let pre = c.requires in
    record { grid = pre.grid; flags = pre.flags; fits = rw change adjusts.change; values = rw change adjusts.values }

pub adjust_prices-requires : goal.adjust_prices-requires
unfolding lowest
adjust_prices-requires c =
    let found = value_found _ _ _ _ (sym c.least_uncovered-least.ensures ∙ c.in-Some.is) in
    let adjusts = c.requires.adjusts c.if-run-budget.false found.0 in
    let change = back _ _ found.1 adjusts.change in
    let pre = c.requires in
    record {
      word = pre.grid.word;
      row_lines = pre.row_lines;
      column_lines = pre.column_lines;
      back = rw change adjusts.back;
      lower = rw change adjusts.lower;
      higher = rw change adjusts.higher;
    }

pub returns : goal.returns
unfolding lowest
returns c =
    let found = value_found _ _ _ _ (sym c.least_uncovered-least.ensures ∙ c.in-Some.is) in
    let adjusts = c.requires.adjusts c.if-run-budget.false found.0 in
    let change = back _ _ found.1 adjusts.change in
    step6_adjusts _ _ _ (view c.args.run) _ _ _ found.0 _ _ _ _ change c.if-run-budget.false
    c.follow_prices.ensures c.adjust_prices.ensures.0 c.adjust_prices.ensures.1 c.adjusting.ensures
