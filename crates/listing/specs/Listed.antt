-- What the lists go by: at most 64 rows, each with a column below n; sums that 64 bits hold.
use Rattle.std.specs.Prelude.{◌≡◌, List, ℕ, ◌≤◌, ◌<◌, ℤ, pos, ◌+ℤ◌, get_or}
use Rattle.std.specs.Int.{w64}
use Rattle.std.proofs.Common.{SFits}
use Rattle.lines.specs.Sum.{sumℤ}

pub record Listed (n : ℕ) (columns : List ℕ) : Type 0 where
  pub small : n ≤ 64
  pub below : (row : ℕ) → row < n → get_or columns row 0 < n

-- the sum, where 64 bits hold it
abbrev pub Sum : ℤ → ℤ → ℤ → Type 0
Sum a b r = SFits w64 (a +ℤ b) → r ≡ a +ℤ b

-- the sum of the first n values, where 64 bits hold it and every sum before it
abbrev pub SumOf : ℕ → List ℤ → ℤ → Type 0
SumOf n values r = ((k : ℕ) → k ≤ n → SFits w64 (sumℤ (λ i. get_or values i (pos 0)) k)) → r ≡ sumℤ (λ i. get_or values i (pos 0)) n
