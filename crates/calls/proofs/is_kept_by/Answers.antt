-- `is_kept_by` lends as much of each list as it is long, which is there.
use mathlib.Core.Path.{◌∙◌}
use native.Mathlib.Omega.{arith}
use lib.Seq.{length-take-le}
use lib.IntN.{pos}
use mir.Facts.{to_z-of_z}
use mir.Syntax.{w64}
use mir.Val.{SFits}
use borrow.Author.Rules.{rules}
use Rattle.steps.specs.Lent.{buffers}
use Rattle.calls.proofs.Saying.{both, counted, says_all, refilled}
use Rattle.calls.proofs.is_kept_by.Goals as goal

pub returns : goal.returns
returns g c =
    let price : SFits w64 c.args.call.before.price = search rules in
    let value : SFits w64 c.args.call.before.working = search rules in
    let l = c.args.call.lengths in
    let b = c.args.call.before in
    let kept = c.solve_assignment-answer.auto in
    let last = c.solve_assignment-answer.new in
    let costs_long = length-take-le l.costs c.costs_of-costs.result (omega (arith, c.costs_of-costs.ensures.long, c.requires.costs)) in
    let mask_long = length-take-le l.mask c.mask_of-mask.result (omega (arith, c.mask_of-mask.ensures.long, c.requires.mask)) in λ e.
    let t8 = both _ _ e in
    let t7 = both _ _ t8.0 in
    let t6 = both _ _ t7.0 in
    let t5 = both _ _ t6.0 in
    let t4 = both _ _ t5.0 in
    let t3 = both _ _ t4.0 in
    let t2 = both _ _ t3.0 in
    record {
      costs = _;
      mask = _;
      answer = c.solve_assignment-answer.result;
      after = buffers last.working last.marks last.columns last.row_prices last.column_prices;
      solver = refilled l b (to_z-of_z {w = w64} value) (to_z-of_z {w = w64} price) c.solve_assignment-answer.ensures;
      costs_long = costs_long;
      mask_long = mask_long;
      says_costs = says_all (λ z. z) (pos 0) _ (λ x z h. h) costs_long (c.says.ensures t2.1);
      says_mask = says_all (λ n. pos n) 0 _ (λ x z h. h) mask_long (c.says-2.ensures t3.1);
      says_answer = c.is_answer.ensures t2.0;
      says_working = says_all (λ z. z) (pos 0) last.working (λ x z h. h) (kept.working ∙ length-take-le _ _ (search rules)) (c.says-3.ensures t4.1);
      says_marks = λ m. says_all (λ n. pos n) 0 last.marks (λ x z h. h) (kept.marks ∙ length-take-le _ _ (search rules)) (c.says-4.ensures (counted _ _ t5.1 m));
      says_columns = says_all (λ n. pos n) 0 last.columns (λ x z h. h) (kept.columns ∙ length-take-le _ _ (search rules)) (c.says-5.ensures t6.1);
      says_row_prices = says_all (λ z. z) (pos 0) last.row_prices (λ x z h. h) (kept.row_prices ∙ length-take-le _ _ (search rules)) (c.says-6.ensures t7.1);
      says_column_prices = says_all (λ z. z) (pos 0) last.column_prices (λ x z h. h) (kept.column_prices ∙ length-take-le _ _ (search rules)) (c.says-7.ensures t8.1);
    }
