-- A cost beside a price, and less two prices, in the code: a local holds bits of 64, and each difference fits them.
use mathlib.Core.Path.{◌≡◌, sym, ap, ◌∙◌}
use borrow.Author.Tests.{eq-eqb, ne_eqb}
use lib.Dec.{eqb}
use Prim.Native.Nat.{◌<◌, ◌^◌}
use lib.IntN.{ℤ, pos, ◌-ℤ◌}
use lib.Signed.{mag}
use mir.Syntax.{w32, w64}
use mir.Val.{SFits, to_z, of_z}
use mir.Facts.{to_z-of_z}
use Rattle.lines.specs.Bounds.{Within}
use Rattle.lines.proofs.Signed.{signed, minus_parts, neg_parts, size}
use Rattle.lines.proofs.Tests.{T_true, by_cases, clash}
use Rattle.steps.specs.Steps.{is_zero}
use Rattle.steps.proofs.Turns.{zero_is, is_zero_pos}
use Rattle.ground.proofs.Wide.{back64}

-- a cost of 32 bits that a local of 64 holds
pub widened : (x r : ℤ) → mag x < 2 ^ 31 → mag r < 2 ^ 63 → r ≡ to_z w32 (of_z w32 x) → to_z w64 (of_z w64 r) ≡ x
widened x r hx hr e = back64 r hr ∙ e ∙ to_z-of_z {w = w32} {z = x} (record { sfits = hx })

-- locals are equal by their bits where their difference is 0
pub same_bits : (x y : ℤ) → SFits w64 x → SFits w64 y → eqb (of_z w64 x) (of_z w64 y) ≡ is_zero (x -ℤ y)
same_bits x y fx fy = by_cases (is_zero (x -ℤ y))
    (λ z. let d = zero_is (x -ℤ y) (rw z tt) in let e : x ≡ y = omega (signed, d, minus_parts x y) in eq-eqb _ _ (ap (of_z w64) e) ∙ sym z)
    (λ z. ne_eqb _ _ (λ e.
    let same : x ≡ y = sym (to_z-of_z fx) ∙ ap (to_z w64) e ∙ to_z-of_z fy in
    let none : x -ℤ y ≡ pos 0 = omega (signed, same, minus_parts x y) in
    clash (is_zero (x -ℤ y)) (ap is_zero none ∙ T_true (is_zero (pos 0)) is_zero_pos) z) ∙ sym z)

module _ (x p q a : ℤ) (hx : mag x < 2 ^ 31) (ha : mag a < 2 ^ 63) (ea : a ≡ to_z w32 (of_z w32 x)) (fp : SFits w64 p) (wp : Within 1099511627776 p) (wq : Within 1099511627776 q) where
  first_is : to_z w64 (of_z w64 a) -ℤ to_z w64 (of_z w64 p) ≡ x -ℤ p
  first_is = rw (widened x a hx ha ea, to_z-of_z fp)

  pub first_fits : SFits w64 (to_z w64 (of_z w64 a) -ℤ to_z w64 (of_z w64 p))
  first_fits = rw first_is (omega (signed, minus_parts x p, size x, wp.above, wp.below, neg_parts (pos 1099511627776)))

  -- r is the first difference, as a call gives it back
  module _ (r : ℤ) (hr : mag r < 2 ^ 63) (hq : mag q < 2 ^ 63) (e : r ≡ to_z w64 (of_z w64 a) -ℤ to_z w64 (of_z w64 p)) where
    second_is : to_z w64 (of_z w64 r) -ℤ to_z w64 (of_z w64 q) ≡ x -ℤ p -ℤ q
    second_is = rw (back64 r hr, back64 q hq, e, first_is)

    pub second_fits : SFits w64 (to_z w64 (of_z w64 r) -ℤ to_z w64 (of_z w64 q))
    second_fits =
        rw second_is
        (omega (signed, minus_parts x p, minus_parts (x -ℤ p) q, size x, wp.above, wp.below, wq.above, wq.below, neg_parts (pos 1099511627776)))

    pub both_off : (y : ℤ) → mag y < 2 ^ 63 → y ≡ to_z w64 (of_z w64 r) -ℤ to_z w64 (of_z w64 q) → to_z w64 (of_z w64 y) ≡ x -ℤ p -ℤ q
    both_off y hy ey = back64 y hy ∙ ey ∙ second_is
