-- How far a number is from 0.
use Rattle.std.specs.Prelude.{ℕ, ℤ, pos, neg_ℤ, ◌≤ℤ◌}

-- z is at most L away from 0
pub record Within (L : ℕ) (z : ℤ) : Type 0 where
  pub above : neg_ℤ (pos L) ≤ℤ z
  pub below : z ≤ℤ pos L
