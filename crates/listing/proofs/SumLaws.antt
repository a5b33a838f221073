-- Sums that 64 bits hold: one more value of a sum.
use mathlib.Core.Path.{◌≡◌, refl, sym, ap, ◌∙◌}
use mathlib.Core.List.{List}
use Prim.Native.Nat.{ℕ, ◌+◌, ◌≤◌}
use native.Mathlib.Omega.{arith}
use lib.IntN.{ℤ, pos, negsuc, ◌+ℤ◌}
use lib.ListN.{get_or}
use mir.Syntax.{w64}
use mir.Val.{SFits, to_z, of_z}
use mir.Facts.{to_z-of_z}
use Rattle.std.specs.Int.{saturate_signed}
use Rattle.lines.specs.Sum.{sumℤ}
use Rattle.lines.proofs.Loops.{sumℤ_more}
use Rattle.listing.specs.Listed.{Sum}

-- the nearest number that 64 bits hold is the sum, where they hold it
pub saturated : (z : ℤ) → SFits w64 z → saturate_signed w64 z ≡ z
saturated (pos n) f = ap pos (omega (arith, f))
saturated (negsuc n) f = ap negsuc (omega (arith, f))

-- what a local of 64 bits gives back
abbrev kept : ℤ → ℤ
kept z = to_z w64 (of_z w64 z)

-- after k turns: the sum, if every sum so far is held
pub record Summed (values : List ℤ) (k : ℕ) (z : ℤ) : Type 0 where
  pub summed : ((m : ℕ) → m ≤ k → SFits w64 (sumℤ (λ i. get_or values i (pos 0)) m)) → z ≡ sumℤ (λ i. get_or values i (pos 0)) k

pub summed_none : (values : List ℤ) → Summed values 0 (pos 0)
unfolding sumℤ
summed_none values = record { summed = λ held. refl }

-- one more value, as the code adds it
pub summed_more : {values : List ℤ} {k : ℕ} {z r : ℤ} → Summed values k z
    → SFits w64 (get_or values k (pos 0)) → Sum z (kept (get_or values k (pos 0))) r → SFits w64 r
    → Summed values (k + 1) (kept r)
summed_more {values} {k} {z} {r} s fits more held_r = record {
  summed = λ held.
      let so_far : z ≡ sumℤ (λ i. get_or values i (pos 0)) k = s.summed (λ m h. held m (omega arith)) in
      let next = sumℤ_more (λ i. get_or values i (pos 0)) k in
      let all : SFits w64 (z +ℤ get_or values k (pos 0)) = rw (so_far, ← next) (held (k + 1) (omega arith)) in
      to_z-of_z held_r ∙ (rw (to_z-of_z fits) at more) all ∙ rw so_far (sym next);
}
