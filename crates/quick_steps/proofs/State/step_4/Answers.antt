-- `State::step_4` goes one of three ways (`Primed`).
use mathlib.Core.Path.{◌≡◌, sym, ap, ◌∙◌}
use mathlib.Core.Bool.{Bool}
use Prim.Native.Nat.{◌<◌}
use native.Mathlib.Omega.{arith}
use lib.IntN.{ℤ, pos}
use lib.ListN.{get_or}
use mir.Syntax.{w64}
use mir.Val.{SFits, to_z, of_z}
use mir.Facts.{to_z-of_z}
use borrow.Author.Rules.{rules}
use Rattle.lines.proofs.Signed.{within_zero}
use Rattle.lines.proofs.Squares.{place_lt}
use Rattle.steps.specs.Steps.{covering}
use Rattle.ground.proofs.Wide.{back64}
use Rattle.keyed.specs.Keys.{row_of, column_of, names_zero}
use Rattle.keyed.proofs.KeyBits.{wider}
use Rattle.quick_steps.proofs.WayLaws.{zero_near, bits_within, less_fits, less_within, price_told, told_covers}
use Rattle.quick_steps.proofs.State.step_4.Goals as goal
use Rattle.quick_steps.proofs.State.step_4.Goals.{After-row_of-row}

-- what the test says is said of the state itself
zero_is : {best risen : ℤ} {b x : Bool} → SFits w64 best → SFits w64 risen → b ≡ names_zero 64 (to_z w64 (of_z w64 best)) (to_z w64 (of_z w64 risen)) → b ≡ x
    → names_zero 64 best risen ≡ x
zero_is f g e h = rw (to_z-of_z f, to_z-of_z g) at (sym e ∙ h)

-- a zero: its row is there
row_below : (c : After-row_of-row) → c.row_of-row.result < c.args.priced.n
row_below c =
    let best : SFits w64 c.args.self.best = search rules in
    let risen : SFits w64 c.args.self.risen = search rules in
    let named = c.requires.names (zero_near 64 _ _ (zero_is best risen c.names_zero.ensures c.if-not-names_zero.false)) in
    omega (arith, rw (to_z-of_z best) at c.row_of-row.ensures, named.1)

pub offset_bounds-stars-row : goal.offset_bounds-stars-row
offset_bounds-stars-row c = omega (arith, row_below (goal.at.offset_bounds-stars-row c).After-row_of-row, c.requires.safe.word.most)

pub bounds-stars-row : goal.bounds-stars-row
bounds-stars-row c = omega (arith, row_below (goal.at.bounds-stars-row c).After-row_of-row, c.requires.safe.word.most)

pub offset_bounds-stars-row-2 : goal.offset_bounds-stars-row-2
offset_bounds-stars-row-2 c = omega (arith, row_below (goal.at.offset_bounds-stars-row-2 c).After-row_of-row, c.requires.safe.word.most)

pub bounds-stars-row-2 : goal.bounds-stars-row-2
bounds-stars-row-2 c = omega (arith, row_below (goal.at.bounds-stars-row-2 c).After-row_of-row, c.requires.safe.word.most)

pub covering-run-requires : goal.covering-run-requires
covering-run-requires c =
    let pre = c.requires in
    record {
      row_bit = omega (arith, row_below (goal.at.covering-run-requires c).After-row_of-row, pre.safe.word.most);
      star_bit = omega (arith, c.if-priced-starred.false, pre.safe.word.most);
      more = pre.more;
    }

-- 0 is listed beside the rise: that the difference fits does not depend on what is taken off, so a wrong one is refused by the price that it gives
pub difference-price-requires : goal.difference-price-requires
difference-price-requires c =
    let safe = c.requires.safe in
    let f : SFits w64 (get_or c.args.priced.column_prices.now (get_or c.args.stars.now.star c.row_of-row.result 0) (pos 0)) = search rules in
    let risen : SFits w64 c.args.self.risen = search rules in
    let price = bits_within 1099511627776 _ f.sfits (safe.column_within _ (omega (arith, c.if-priced-starred.false))) in
    let rise = bits_within 1099511627776 _ risen.sfits safe.risen_within in
    search (less_fits, price, rise, within_zero 1099511627776)

pub lower-least-requires : goal.lower-least-requires
lower-least-requires c =
    let pre = c.requires in
    let safe = pre.safe in
    let below = c.if-priced-starred.false in
    let f : SFits w64 (get_or c.args.priced.column_prices.now (get_or c.args.stars.now.star c.row_of-row.result 0) (pos 0)) = search rules in
    let risen : SFits w64 c.args.self.risen = search rules in
    let price = bits_within 1099511627776 _ f.sfits (safe.column_within _ (omega (arith, below))) in
    let rise = bits_within 1099511627776 _ risen.sfits safe.risen_within in
    record {
      word = safe.word;
      keys_square = safe.keys_square;
      row_lines = safe.row_lines;
      below = omega (arith, below);
      price_within = search (less_within, price, rise, within_zero 1099511627776, c.difference-price.type_inv, c.difference-price.ensures);
      row_within = λ i hi. wider (safe.row_within i hi);
      entry_within = λ i hi. safe.entry_within _ (place_lt _ _ i (omega (arith, below)) hi);
    }

pub returns-clause-primed : goal.returns-clause-primed
unfolding covering
returns-clause-primed c =
    let a = c.args in
    let best : SFits w64 c.args.self.best = search rules in
    let risen : SFits w64 c.args.self.risen = search rules in
    let zero = zero_is best risen c.names_zero.ensures c.if-not-names_zero.false in
    let row = c.row_of-row.ensures ∙ ap (row_of 64) (to_z-of_z best) in
    let column = c.column_of-column.ensures ∙ ap (column_of 64) (to_z-of_z best) in
    let p = get_or a.priced.column_prices.now (get_or a.stars.now.star c.row_of-row.result 0) (pos 0) in
    let f : SFits w64 p = search rules in
    let price = price_told p a.self.risen _ f.sfits risen.sfits c.difference-price.type_inv c.difference-price.ensures in
    told_covers _ a.self _ _ _ _ _ _ _ _ row column zero _ _ (omega (arith, c.if-priced-starred.false))
    c.covering-run.ensures (to_z-of_z risen) (ap (λ r. r.rows) c.covering-run.ensures) price
    (back64 _ c.lower-least.type_inv ∙ c.lower-least.ensures.least) c.lower-least.ensures.keys
