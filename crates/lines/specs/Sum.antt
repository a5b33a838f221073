-- Sums over the indices below n, of naturals and of integers.
use Rattle.std.specs.Prelude.{ℕ, zero, suc, ◌+◌, ℤ, pos, ◌+ℤ◌}

-- f 0 + .. + f (n - 1)
unfoldable pub sum : (ℕ → ℕ) → ℕ → ℕ
sum f zero = 0
sum f (suc n) = sum f n + f n

unfoldable pub sumℤ : (ℕ → ℤ) → ℕ → ℤ
sumℤ f zero = pos 0
sumℤ f (suc n) = sumℤ f n +ℤ f n
