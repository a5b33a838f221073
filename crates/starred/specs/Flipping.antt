-- A path flipped in place: from the prime at (i, j) to the star in its column, to the prime in that star's row, and so on; each row takes its prime's column.
use Rattle.std.specs.Prelude.{cond, List, ℕ, zero, suc, ◌<◌, ltb, get_or, set}

module _ (n : ℕ) (prime : List ℕ) where
  unfoldable pub flipped : ℕ → List ℕ → List ℕ → ℕ → ℕ → List ℕ × List ℕ
  flipped zero star owner i j = (star, owner)
  flipped (suc k) star owner i j =
      let o = get_or owner j 0 in
      cond (ltb o n) (flipped k (set star i j) (set owner j i) o (get_or prime o 0)) (set star i j, set owner j i)

  -- every place on the way is in the square
  unfoldable pub Follows : ℕ → List ℕ → ℕ → ℕ → Type 0
  Follows zero owner i j = Unit
  Follows (suc k) owner i j = (i < n) × (j < n) × (get_or owner j 0 < n → Follows k (set owner j i) (get_or owner j 0) (get_or prime (get_or owner j 0) 0))
