-- How many indices below n pass a test.
use Rattle.std.specs.Prelude.{ℕ, Bool, true, false}
use Rattle.lines.specs.Sum.{sum}

-- 1 where a test passes, and 0 where it fails
unfoldable pub bit : Bool → ℕ
bit true = 1
bit false = 0

unfoldable pub count : (ℕ → Bool) → ℕ → ℕ
count b n = sum (λ i. bit (b i)) n
