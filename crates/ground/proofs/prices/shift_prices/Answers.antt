-- `prices::shift_prices` meets its contract: the lines of the set that were met so far are done, and the others stay (`Passed`).
use mathlib.Core.Path.{◌≡◌, ◌∙◌}
use mathlib.Core.Bool.{true}
use mathlib.Core.List.{List}
use Prim.Native.Nat.{ℕ, ◌<◌}
use native.Mathlib.Omega.{arith}
use lib.IntN.{ℤ, pos, ◌+ℤ◌}
use lib.ListN.{length, get_or}
use mir.Syntax.{w64}
use mir.Val.{to_z, of_z}
use mir.Facts.{to_z-of_z}
use mir.Val.{SFits}
use borrow.Author.Rules.{rules}
use Rattle.lines.specs.Sets.{has}
use Rattle.lines.proofs.Loops.{Passed, passed_none, passed_store, passed_keep, passed_all}
use Rattle.lines.proofs.Walks.{Passes, walk_begin, walk_turn, walk_end}
use Rattle.ground.specs.Square.{Fit64}
use Rattle.ground.specs.Prices.{shifted}
use Rattle.ground.proofs.Wide.{each_fits}
use Rattle.ground.proofs.prices.shift_prices.Invariants.{moved}
use Rattle.ground.proofs.prices.shift_prices.Goals as goal

-- a line that is not in the set keeps its price
missed : (lines : ℕ) (change : ℤ) (prices₀ prices : List ℤ) → Passes (length prices₀) lines (Passed (pos 0) (moved lines change) prices₀ prices)
missed lines change prices₀ prices k h e p = passed_keep (pos 0) (moved lines change) prices₀ prices k (p.left k (omega arith) ∙ rw e) p

pub loop-line-init : goal.loop-line-init
loop-line-init c = rw (c.into_iter-line-iterator.ensures.into_iter_gives, c.members-line-items.ensures) (walk_begin c.requires.within (passed_none (pos 0) _ _) (missed _ _ _ _))

-- ---- a turn, and the line that it meets

pub offset_bounds-prices-line : goal.offset_bounds-prices-line
offset_bounds-prices-line c =
    let m = walk_turn c.requires.most c.in-Some.ensures.steps c.loop-line.invariant in
    omega (arith, m.below, c.requires.most)

pub slice_copy_out-prices : goal.slice_copy_out-prices
slice_copy_out-prices c =
    let m = walk_turn c.requires.most c.in-Some.ensures.steps c.loop-line.invariant in
    omega (arith, m.below, m.kept.long)

-- the changed price of the line fits
sum_fits : (lines line : ℕ) (change : ℤ) (prices₀ prices : List ℤ) → Fit64 (shifted change lines prices₀) → line < length prices₀ → has lines line ≡ true
    → SFits w64 (get_or prices line (pos 0)) → SFits w64 change → get_or prices line (pos 0) ≡ get_or prices₀ line (pos 0)
    → SFits w64 (to_z w64 (of_z w64 (get_or prices line (pos 0))) +ℤ to_z w64 (of_z w64 change))
unfolding shifted
sum_fits lines line change prices₀ prices values below member f g left = rw (to_z-of_z f, left, to_z-of_z g) (rw member at (each_fits _ prices₀ values _ below))

pub overflow_add-prices : goal.overflow_add-prices
overflow_add-prices c =
    let m = walk_turn c.requires.most c.in-Some.ensures.steps c.loop-line.invariant in
    sum_fits _ _ _ _ _ c.requires.values m.below m.member (search rules) c.ranges.change (m.kept.left _ (omega arith))

pub bounds-prices-line : goal.bounds-prices-line
bounds-prices-line c =
    let m = walk_turn c.requires.most c.in-Some.ensures.steps c.loop-line.invariant in
    omega (arith, m.below, m.kept.long)

pub loop-line-preserved : goal.loop-line-preserved
loop-line-preserved c =
    let m = walk_turn c.requires.most c.in-Some.ensures.steps c.loop-line.invariant in
    let line = c.in-Some.line in
    let f : SFits w64 (get_or c.loop-line.prices line (pos 0)) = search rules in
    let left = m.kept.left line (omega arith) in
    m.on _
    (passed_store (pos 0) _ _ _ _ _ (omega (arith, m.below, m.kept.long))
    (to_z-of_z (sum_fits _ _ _ _ _ c.requires.values m.below m.member f c.ranges.change left) ∙ rw (to_z-of_z f, left, m.member)) m.kept)
    (missed _ _ _ _)

pub returns : goal.returns
unfolding shifted
returns c =
    let p = walk_end c.in-None.ensures.steps.0 c.loop-line.invariant in
    rw (to_z-of_z c.ranges.change) at (passed_all (pos 0) _ _ _ _ (omega (arith, p.long)) p)
