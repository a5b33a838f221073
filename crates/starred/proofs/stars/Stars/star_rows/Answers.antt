-- `Stars::star_rows` stars the rows so far (`Starring`).
use mathlib.Core.Path.{◌≡◌, refl, sym, ap, ◌∙◌}
use native.Mathlib.Omega.{arith}
use lib.IntN.{pos, ℤ}
use lib.ListN.{length, get_or}
use mir.Syntax.{w64}
use mir.Val.{SFits, to_z, of_z}
use Rattle.lines.proofs.Squares.{table_at, table_same, length_table}
use Rattle.steps.specs.Lent.{allows, cost_at}
use Rattle.starred.proofs.Starrings.{starring_none, starring_skip, starring_star, starring_all, found_by_cost}
use borrow.Author.Rules.{rules}
use Rattle.starred.proofs.stars.Stars.star_rows.Goals as goal
use Rattle.starred.proofs.stars.Stars.star_rows.Goals.{In-Some, in-Some, in_default}
use Rattle.lines.proofs.Firsts.{some_found, none_found}
use mathlib.Core.List.{List}
use mir.Facts.{to_z-of_z}
use Rattle.lines.specs.Square.{table}
use Prim.Native.Nat.{ℕ, ◌<◌}

-- a row's price is what step 1 says
priced : {n i : ℕ} (f : ℕ → ℤ) {xs : List ℤ} → i < n → xs ≡ table f n → SFits w64 (get_or xs i (pos 0)) → to_z w64 (of_z w64 (get_or xs i (pos 0))) ≡ f i
priced {n} {i} f {xs} h e k = to_z-of_z k ∙ ap (λ ys. get_or ys i (pos 0)) e ∙ table_at (pos 0) f n i h

pub loop-row-init : goal.loop-row-init
loop-row-init c =
    let star_long : length c.args.self.now.star ≡ 64 = omega arith in
    let owner_long : length c.args.self.now.owner ≡ 64 = omega arith in
    (starring_none _ _ _ 64 64 c.requires.most c.requires.most (c.fill.ensures.after (λ y e. e) ∙ rw star_long (table_same c.args.matrix.n 64)) (c.fill-2.ensures.after (λ y e. e) ∙ rw owner_long (table_same c.args.matrix.n 64)), refl)

pub bounds-row_prices-row : goal.bounds-row_prices-row
bounds-row_prices-row c =
    let e = ap length c.requires.prices ∙ length_table _ c.args.matrix.n in
    omega (arith, e)

pub free_zero-requires : goal.free_zero-requires
free_zero-requires c =
    let pre = c.requires in
    let below : c.loop-row.row < c.args.matrix.n = omega arith in
    let f : SFits w64 (get_or c.args.row_prices.now c.loop-row.row (pos 0)) = search rules in
    let price = priced _ below pre.prices f in
    record {
      most = pre.most;
      costs_square = pre.costs_square;
      mask_square = pre.mask_square;
      below = below;
      small = rw price (pre.small _ below);
      before = rw price (pre.before _ below);
    }

-- the column that is found
below : (c : In-Some) → c.in-Some.column < 64
below c = let s = some_found c.args.matrix.n _ _ (sym c.free_zero.ensures ∙ c.in-Some.is) in omega (arith, c.requires.most, s.1)

pub offset_bounds-self-column : goal.offset_bounds-self-column
offset_bounds-self-column c = let h = below (goal.at.offset_bounds-self-column c).In-Some in omega arith

pub bounds-self-column : goal.bounds-self-column
bounds-self-column c = let h = below (goal.at.bounds-self-column c).In-Some in omega arith

pub cover-taken-requires : goal.cover-taken-requires
cover-taken-requires c = let h = below (goal.at.cover-taken-requires c).In-Some in omega arith

pub loop-row-preserved : goal.loop-row-preserved
loop-row-preserved c =
    let m = c.args.matrix in
    let l = c.loop-row in
    let h : l.row < m.n = omega arith in
    let g : SFits w64 (get_or c.args.row_prices.now l.row (pos 0)) = search rules in
    let same = found_by_cost m.n (allows m.n m.mask.now) (cost_at m.n m.costs.now) l.row l.taken _ h (priced _ h c.requires.prices g) refl in
    elim c.match-free_zero.branch [
      | in-Some w ↦ let s = some_found m.n _ _ (sym c.free_zero.ensures ∙ w.in-Some.is) in
          (rw (w.self-is, w.taken-is) (rw w.cover-taken.ensures (starring_star _ _ _ l.invariant.0 (sym s.0 ∙ same) h s.1)), rw w.self-is l.invariant.1)
      | in_default w ↦ (
        rw (w.self-is, w.taken-is) (starring_skip _ _ _ l.invariant.0 same (none_found m.n _ (sym c.free_zero.ensures ∙ w.in_default.is))),
        rw w.self-is l.invariant.1,
      )
    ]

pub returns-clause-star : goal.returns-clause-star
returns-clause-star c =
    let e : c.loop-row.row ≡ c.args.matrix.n = omega arith in
    (starring_all _ _ _ (rw e at c.loop-row.invariant.0)).0

pub returns-clause-owner : goal.returns-clause-owner
returns-clause-owner c =
    let e : c.loop-row.row ≡ c.args.matrix.n = omega arith in
    (starring_all _ _ _ (rw e at c.loop-row.invariant.0)).1

pub returns-clause-long : goal.returns-clause-long
returns-clause-long c =
    let prime_long : length c.args.self.now.prime ≡ 64 = omega arith in
    (c.loop-row.invariant.0.star_long, c.loop-row.invariant.0.owner_long, rw c.loop-row.invariant.1 (omega (arith, prime_long, c.requires.most)))
