-- A sum over the columns of a pairing of n rows with n columns is the sum over all columns.
use mathlib.Core.Path.{◌≡◌}
use mathlib.Core.Bool.{true}
use mathlib.Core.List.{List}
use Prim.Native.Nat.{ℕ, ◌-◌, ◌*◌, ◌≤◌}
use native.Mathlib.Omega.{arith}
use lib.IntN.{ℤ}
use Rattle.lines.specs.Sum.{sum, sumℤ}
use Rattle.lines.specs.Count.{bit}
use Rattle.lines.proofs.Signed.{P, N, signed}
use Rattle.lines.proofs.Sums.{sum_ext, sum_rest, le_sum}
use Rattle.lines.proofs.Counts.{sum_inj}
use Rattle.lines.proofs.Sumsℤ.{sumℤ_parts}
use Rattle.assignment.specs.Problem.{Pairing, column}

-- of any number of rows: no column is met twice
into : (m n : ℕ) (p : List ℕ) (f : ℕ → ℕ) → Pairing m n p → sum (λ i. f (column p i)) m ≤ sum f n
unfolding bit
into m n p f o =
    omega (
      arith,
      sum_ext (λ i. f (column p i)) (λ i. bit true * f (column p i)) m (λ i h. omega arith),
      sum_inj (λ i. true) (column p) f m n (λ i h t. o.below i h) (λ i j h k t u. o.apart i j h k),
    )

-- at most, by the columns being different; at least, by the same for what f lacks of its own sum
pub permuted : (n : ℕ) (p : List ℕ) (f : ℕ → ℕ) → Pairing n n p → sum (λ i. f (column p i)) n ≡ sum f n
permuted n p f o =
    let b : ℕ = sum f n in
    omega (
      arith,
      into n n p f o,
      into n n p (λ j. b - f j) o,
      sum_rest f b n (le_sum f n),
      sum_rest (λ i. f (column p i)) b n (λ i h. le_sum f n (column p i) (o.below i h)),
    )

pub permutedℤ : (n : ℕ) (p : List ℕ) (f : ℕ → ℤ) → Pairing n n p → sumℤ (λ i. f (column p i)) n ≡ sumℤ f n
permutedℤ n p f o =
    omega (
      signed,
      sumℤ_parts f n,
      sumℤ_parts (λ i. f (column p i)) n,
      permuted n p (λ j. P (f j)) o,
      permuted n p (λ j. N (f j)) o,
    )
