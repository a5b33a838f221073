-- A change times a mask byte that is 0 or 1, as the code holds it: the change at an allowed cell, and 0 at a forbidden one, whose value then stays.
use mathlib.Core.Path.{◌≡◌, refl, ◌∙◌}
use mathlib.Core.Bool.{Bool, true, false, cond}
use Prim.Native.Nat.{ℕ, zero, suc, ◌≤◌}
use native.Mathlib.Omega.{arith}
use lib.Dec.{eqb}
use lib.IntN.{ℤ, pos, one, ◌*ℤ◌, *ℤ-one, *ℤ-zero, +ℤ_idr}
use mir.Syntax.{w64}
use mir.Val.{SFits, to_z, of_z}
use mir.Facts.{to_z-of_z}
use Rattle.lines.proofs.Tests.{cond_ind}
use Rattle.steps.specs.Steps.{follow}

module _ (z : ℤ) (fits : SFits w64 z) where
  product : (byte : ℕ) → byte ≤ 1 → to_z w64 (of_z w64 z) *ℤ to_z w64 byte ≡ cond (eqb byte 1) z (pos 0)
  unfolding one
  product zero h = rw (to_z-of_z fits) (*ℤ-zero z)
  product (suc zero) h = rw (to_z-of_z fits) (*ℤ-one z)
  product (suc (suc byte)) h = absurd (omega arith)

  pub product_fits : (byte : ℕ) → byte ≤ 1 → SFits w64 (to_z w64 (of_z w64 z) *ℤ to_z w64 byte)
  product_fits byte h = rw (product byte h) (cond_ind (SFits w64) (eqb byte 1) z (pos 0) (λ t. fits) (λ t. record { sfits = omega arith }))

  pub product_is : (byte : ℕ) → byte ≤ 1 → to_z w64 (of_z w64 (to_z w64 (of_z w64 z) *ℤ to_z w64 byte)) ≡ cond (eqb byte 1) z (pos 0)
  product_is byte h = to_z-of_z (product_fits byte h) ∙ product byte h

pub follow_flag : (ok covered : Bool) (z w : ℤ) → follow (cond ok z (pos 0)) covered covered w ≡ cond ok (follow z covered covered w) w
unfolding follow
follow_flag true covered z w = refl
follow_flag false true z w = +ℤ_idr w
follow_flag false false z w = +ℤ_idr w
