-- Sums over the indices below n, of naturals.
use mathlib.Core.Path.{◌≡◌, refl, sym, ap, ap₂, ◌∙◌}
use mathlib.Core.Logic.{dite}
use Prim.Native.Nat.{ℕ, zero, suc, ◌+◌, ◌-◌, ◌*◌, ◌/◌, ◌≤◌, ◌<◌, zero-le}
use native.Mathlib.Nat.{suc-sub-suc, sub-zero, le_antisymm}
use native.Mathlib.Decide.{ℕ_discrete}
use native.Mathlib.Omega.{arith}
use Rattle.lines.specs.Sum.{sum}
use Rattle.lines.specs.Put.{put}
use Rattle.lines.proofs.Puts.{put_at, put_off}

-- two summands that agree, or are ordered, below n
pub sum_ext : (f g : ℕ → ℕ) (n : ℕ) → ((i : ℕ) → i < n → f i ≡ g i) → sum f n ≡ sum g n
unfolding sum
sum_ext f g zero e = refl
sum_ext f g (suc n) e = ap₂ ◌+◌ (sum_ext f g n (λ i h. e i (omega arith))) (e n (omega arith))

pub sum_mono : (f g : ℕ → ℕ) (n : ℕ) → ((i : ℕ) → i < n → f i ≤ g i) → sum f n ≤ sum g n
unfolding sum
sum_mono f g zero e = omega arith
sum_mono f g (suc n) e = omega (arith, sum_mono f g n (λ i h. e i (omega arith)), e n (omega arith))

pub sum_add : (f g : ℕ → ℕ) (n : ℕ) → sum (λ i. f i + g i) n ≡ sum f n + sum g n
unfolding sum
sum_add f g zero = refl
sum_add f g (suc n) = omega (arith, sum_add f g n)

pub sum_const : (b n : ℕ) → sum (λ i. b) n ≡ n * b
unfolding sum
sum_const b zero = omega arith
sum_const b (suc n) = omega (arith, sum_const b n)

-- counted from the lowest line
pub sum_front : (f : ℕ → ℕ) (n : ℕ) → sum f (suc n) ≡ f 0 + sum (λ i. f (suc i)) n
unfolding sum
sum_front f zero = omega arith
sum_front f (suc n) = omega (arith, sum_front f n)

-- more summands
pub sum_longer : (f : ℕ → ℕ) (m n : ℕ) → m ≤ n → sum f m ≤ sum f n
unfolding sum
sum_longer f m zero h = rw (le_antisymm h zero-le) (omega arith)
sum_longer f m (suc n) h = dite (ℕ_discrete m (suc n)) (λ e. rw e (omega arith)) (λ ne. omega (arith, sum_longer f m n (omega arith)))

-- one summand is at most the sum
pub le_sum : (f : ℕ → ℕ) (n i : ℕ) → i < n → f i ≤ sum f n
unfolding sum
le_sum f zero i h = omega arith
le_sum f (suc n) i h = dite (ℕ_discrete i n) (λ e. omega (arith, ap f e)) (λ ne. omega (arith, le_sum f n i (omega arith)))

-- changing one summand changes the sum by the difference
pub sum_put : (f : ℕ → ℕ) (v x n : ℕ) → v < n → sum (put f v x) n + f v ≡ sum f n + x
unfolding sum
sum_put f v x zero h = omega arith
sum_put f v x (suc n) h =
    dite (ℕ_discrete v n)
    (λ e. omega (arith, sum_ext (put f v x) f n (λ i l. put_off f v x i (omega arith)), put_at f v x n (sym e), ap f e))
    (λ ne. omega (arith, sum_put f v x n (omega arith), put_off f v x n (λ e. ne (sym e))))

-- what each summand lacks of b
pub sum_rest : (f : ℕ → ℕ) (b n : ℕ) → ((i : ℕ) → i < n → f i ≤ b) → sum (λ i. b - f i) n + sum f n ≡ n * b
sum_rest f b n h = sym (sum_add (λ i. b - f i) f n) ∙ sum_ext _ _ n (λ i l. omega (arith, h i l)) ∙ sum_const b n

-- 0 + 1 + .. + (n - 1) is n (n - 1) / 2, with no difference in it
pub sum_below : (n : ℕ) → 2 * sum (λ k. k) n + n ≡ n * n
unfolding sum
sum_below zero = refl
sum_below (suc n) = omega (arith, sum_below n)

-- the same as a bound is used: with the quotient
pub sum_below_half : (n : ℕ) → sum (λ k. k) n ≡ n * (n - 1) / 2
unfolding sum
sum_below_half zero = refl
sum_below_half (suc n) = rw (suc-sub-suc, sub-zero) (omega (arith, sum_below n))

-- 1 + 2 + .. + n is n (n + 1) / 2
pub sum_upto_half : (n : ℕ) → sum (λ k. k + 1) n ≡ n * (n + 1) / 2
unfolding sum
sum_upto_half zero = refl
sum_upto_half (suc n) = omega (arith, sum_upto_half n)
