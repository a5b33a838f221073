-- Price lists: what an engineer can add up by hand to see that a pairing is least.
use Rattle.std.specs.Prelude.{◌≡◌, Bool, ℕ, ◌<◌, T, ℤ, pos, ◌+ℤ◌, ◌≤ℤ◌}

-- at every allowed cell the cost is its row's price, its column's price and a working value that is never negative; prices are of any sign
pub record PriceList (n : ℕ) (ok : ℕ → ℕ → Bool) (cost : ℕ → ℕ → ℤ) (row column : ℕ → ℤ) (working : ℕ → ℕ → ℤ) : Type 0 where
  pub equation : (i j : ℕ) → i < n → j < n → T (ok i j) → cost i j ≡ row i +ℤ column j +ℤ working i j
  pub whole : (i j : ℕ) → i < n → j < n → T (ok i j) → pos 0 ≤ℤ working i j
