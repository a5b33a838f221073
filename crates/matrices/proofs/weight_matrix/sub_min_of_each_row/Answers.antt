-- `weight_matrix::sub_min_of_each_row` meets its contract: the rows and the row prices so far are done.
use borrow.Author.Rules.{rules}
use mathlib.Core.Path.{◌∙◌}
use native.Mathlib.Omega.{arith}
use Rattle.lines.proofs.Loops.{passed_none, passed_store, filled_all}
use Rattle.lines.proofs.Rows.{rows_none, rows_more, rows_filled}
use Rattle.steps.specs.Lent.{allows, cost_at}
use Rattle.steps.specs.Steps.{excess}
use mir.Facts.{to_z-of_z}
use mir.Syntax.{w64}
use mir.Val.{SFits}
use Rattle.ground.proofs.Values.{priced}
use Rattle.matrices.proofs.weight_matrix.sub_min_of_each_row.Goals as goal

pub loop-row-init : goal.loop-row-init
loop-row-init c = (search rules, rows_none _ _ _ _, passed_none _ _ _)

pub price_of_row-price-requires : goal.price_of_row-price-requires
price_of_row-price-requires c =
    let pre = c.requires in
    record { costs_square = pre.prices.costs_square; mask_square = pre.prices.mask_square; below = search rules }

pub sub_row-requires : goal.sub_row-requires
sub_row-requires c =
    let p = c.price_of_row-price in
    let f : SFits w64 p.result = search rules in
    record {
      in_row = record { costs_square = c.requires.prices.costs_square; mask_square = c.requires.prices.mask_square; below = search rules };
      working_square = c.loop-row.invariant.1.rows.long ∙ c.requires.working_square;
      small = rw (to_z-of_z f) p.ensures.1;
    }

pub loop-row-preserved : goal.loop-row-preserved
unfolding excess
loop-row-preserved c =
    let l = c.loop-row in
    let p = c.price_of_row-price in
    let f : SFits w64 p.result = search rules in
    let e = to_z-of_z f ∙ p.ensures.0 ∙ priced _ (allows _ _) (cost_at _ _) _ (c.requires.prices.rows _ (omega arith)) in (
      search rules,
      rows_more _ _ _ _ _ _ _ _ c.requires.working_square (omega arith) (λ j x. rw e) c.sub_row.ensures l.invariant.1,
      passed_store _ _ _ _ _ _ (omega arith) e l.invariant.2,
    )

pub returns : goal.returns
returns c =
    let l = c.loop-row in
    (rows_filled _ _ _ _ _ _ (omega arith) (omega arith) l.invariant.1, filled_all _ _ _ _ _ _ (omega arith) (omega arith) l.invariant.2)
