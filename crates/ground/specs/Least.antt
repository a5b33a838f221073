-- The least value so far, as the code carries it through its loops.
use Rattle.std.specs.Prelude.{Bool, cond, ℕ, zero, suc, ℤ, pos, Option, Some, None}
use Rattle.std.specs.Int.Signed.{lt_z}

-- one value more
unfoldable pub lesser_of : Option ℤ → ℤ → Option ℤ
lesser_of None z = Some z
lesser_of (Some best) z = cond (lt_z z best) (Some z) (Some best)

-- from a least value so far, over the indices below n that pass a test
unfoldable pub least_from : Option ℤ → (ℕ → Bool) → (ℕ → ℤ) → ℕ → Option ℤ
least_from best b f zero = best
least_from best b f (suc n) = cond (b n) (lesser_of (least_from best b f n) (f n)) (least_from best b f n)

-- the price of a row whose least allowed cost this is
unfoldable pub value_or_zero : Option ℤ → ℤ
value_or_zero (Some z) = z
value_or_zero None = pos 0
