-- Sums of integers over the indices below n.
use mathlib.Core.Path.{◌≡◌, refl, ap, ap₂}
use mathlib.Core.Logic.{dite}
use Prim.Native.Nat.{ℕ, zero, suc, ◌+◌, ◌*◌, ◌<◌}
use native.Mathlib.Nat.{suc-mul}
use native.Mathlib.Decide.{ℕ_discrete}
use native.Mathlib.Omega.{arith}
use lib.IntN.{ℤ, pos, ◌+ℤ◌}
use lib.Signed.{◌≤ℤ◌, ≤ℤ_refl}
use Rattle.lines.specs.Sum.{sum, sumℤ}
use Rattle.lines.specs.Bounds.{Within}
use Rattle.lines.proofs.Signed.{P, N, signed, neg_parts, plus_parts, within_zero}

pub sumℤ_ext : (f g : ℕ → ℤ) (n : ℕ) → ((i : ℕ) → i < n → f i ≡ g i) → sumℤ f n ≡ sumℤ g n
unfolding sumℤ
sumℤ_ext f g zero e = refl
sumℤ_ext f g (suc n) e = ap₂ ◌+ℤ◌ (sumℤ_ext f g n (λ i h. e i (omega arith))) (e n (omega arith))

pub sumℤ_mono : (f g : ℕ → ℤ) (n : ℕ) → ((i : ℕ) → i < n → f i ≤ℤ g i) → sumℤ f n ≤ℤ sumℤ g n
unfolding sumℤ
sumℤ_mono f g zero e = ≤ℤ_refl (pos 0)
sumℤ_mono f g (suc n) e =
    let a = sumℤ_mono f g n (λ i h. e i (omega arith)) in
    let b = e n (omega arith) in
    omega (signed, plus_parts (sumℤ f n) (f n), plus_parts (sumℤ g n) (g n))

pub sumℤ_add : (f g : ℕ → ℤ) (n : ℕ) → sumℤ (λ i. f i +ℤ g i) n ≡ sumℤ f n +ℤ sumℤ g n
unfolding sumℤ
sumℤ_add f g zero = refl
sumℤ_add f g (suc n) =
    let h = sumℤ_add f g n in
    let s = sumℤ (λ i. f i +ℤ g i) n in
    omega (
      signed,
      plus_parts s (f n +ℤ g n),
      plus_parts (f n) (g n),
      plus_parts (sumℤ f n) (sumℤ g n),
      plus_parts (sumℤ f n) (f n),
      plus_parts (sumℤ g n) (g n),
      plus_parts (sumℤ f n +ℤ f n) (sumℤ g n +ℤ g n),
    )

pub sumℤ_pos : (f : ℕ → ℕ) (n : ℕ) → sumℤ (λ i. pos (f i)) n ≡ pos (sum f n)
unfolding sumℤ sum
sumℤ_pos f zero = refl
sumℤ_pos f (suc n) = ap (λ x. x +ℤ pos (f n)) (sumℤ_pos f n)

-- the parts of a sum, from those of its summands
pub sumℤ_parts : (f : ℕ → ℤ) (n : ℕ) → P (sumℤ f n) + sum (λ i. N (f i)) n ≡ sum (λ i. P (f i)) n + N (sumℤ f n)
unfolding sumℤ sum
sumℤ_parts f zero = refl
sumℤ_parts f (suc n) = omega (arith, sumℤ_parts f n, plus_parts (sumℤ f n) (f n))

-- of summands that are all 0, and of summands that are never negative
pub sumℤ_zeros : (f : ℕ → ℤ) (n : ℕ) → ((i : ℕ) → i < n → f i ≡ pos 0) → sumℤ f n ≡ pos 0
unfolding sumℤ
sumℤ_zeros f zero e = refl
sumℤ_zeros f (suc n) e = ap₂ ◌+ℤ◌ (sumℤ_zeros f n (λ i h. e i (omega arith))) (e n (omega arith))

pub sumℤ_whole : (f : ℕ → ℤ) (n : ℕ) → ((i : ℕ) → i < n → pos 0 ≤ℤ f i) → pos 0 ≤ℤ sumℤ f n
unfolding sumℤ
sumℤ_whole f zero e = ≤ℤ_refl (pos 0)
sumℤ_whole f (suc n) e =
    let a = sumℤ_whole f n (λ i h. e i (omega arith)) in
    let b = e n (omega arith) in
    omega (signed, plus_parts (sumℤ f n) (f n))

pub le_sumℤ : (f : ℕ → ℤ) (n i : ℕ) → ((j : ℕ) → j < n → pos 0 ≤ℤ f j) → i < n → f i ≤ℤ sumℤ f n
unfolding sumℤ
le_sumℤ f zero i e h = absurd (omega arith)
le_sumℤ f (suc n) i e h =
    let low : (j : ℕ) → j < n → pos 0 ≤ℤ f j = λ j l. e j (omega arith) in
    dite (ℕ_discrete i n)
    (λ q. rw q (omega (signed, sumℤ_whole f n low, plus_parts (sumℤ f n) (f n))))
    (λ ne. omega (signed, le_sumℤ f n i low (omega arith), e n (omega arith), plus_parts (sumℤ f n) (f n)))

-- of summands that are at most L away from 0
pub sumℤ_within : (L : ℕ) (f : ℕ → ℤ) (n : ℕ) → ((i : ℕ) → i < n → Within L (f i)) → Within (n * L) (sumℤ f n)
unfolding sumℤ
sumℤ_within L f zero e = within_zero (zero * L)
sumℤ_within L f (suc n) e =
    let a = sumℤ_within L f n (λ i h. e i (omega arith)) in
    let b = e n (omega arith) in
    let s = plus_parts (sumℤ f n) (f n) in
    record {
      above = omega (signed, neg_parts (pos (suc n * L)), neg_parts (pos (n * L)), neg_parts (pos L), a.above, b.above, suc-mul n L);
      below = omega (signed, a.below, b.below, suc-mul n L);
    }
