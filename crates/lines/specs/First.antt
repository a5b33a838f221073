-- Searches: the first index below n that passes a test, and the first with the least value among those that pass. Where none passes, n.
use Rattle.std.specs.Prelude.{ℕ, zero, suc, Bool, cond, ◌&&◌, ltb, ℤ, Option, Some, None}
use Rattle.std.specs.Int.Signed.{lt_z}

-- v is the answer below n: it stays, unless it says none and n itself passes
unfoldable pub first_on : Bool → ℕ → ℕ → ℕ
first_on b n v = cond (ltb v n) v (cond b n (suc n))

unfoldable pub first : (ℕ → Bool) → ℕ → ℕ
first b zero = zero
first b (suc n) = first_on (b n) n (first b n)

-- is there one
unfoldable pub any : (ℕ → Bool) → ℕ → Bool
any b n = ltb (first b n) n

-- an answer as an option: v if it is below n, and else none
unfoldable pub found : ℕ → ℕ → Option ℕ
found n v = cond (ltb v n) (Some v) None

-- v is the answer below n: n takes its place if n passes and nothing before it did, or n has less
unfoldable pub least_on : Bool → (ℕ → ℤ) → ℕ → ℕ → ℕ
least_on b f n v = cond (ltb v n) (cond (b && lt_z (f n) (f v)) n v) (cond b n (suc n))

unfoldable pub least : (ℕ → Bool) → (ℕ → ℤ) → ℕ → ℕ
least b f zero = zero
least b f (suc n) = least_on (b n) f n (least b f n)
