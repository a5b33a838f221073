-- The table of keys as it is filled, and the column in which a row is cheapest.
use Rattle.std.specs.Prelude.{◌≡◌, ◌≢◌, ◌⊎◌, Bool, List, ℕ, ◌<◌, ℤ, pos, ◌≤ℤ◌}
use Rattle.lines.specs.Square.{cell}
use Rattle.lines.specs.Bounds.{Within}
use Rattle.keyed.specs.Keys.{far, entry}

-- of the first k entries none is below `least`, which is far, or the entry of column c
pub record Lowest (entries : ℕ → ℤ) (c : ℕ) (least : ℤ) (k : ℕ) : Type 0 where
  pub low : (j : ℕ) → j < k → least ≤ℤ entries j
  pub hit : (least ≡ far) ⊎ ((c < k) × (least ≡ entries c))

module _ (n : ℕ) (ok : ℕ → ℕ → Bool) (cost : ℕ → ℕ → ℤ) where
  -- row i is cheapest in column c, and first there; every cost is one of 32 bits
  pub record CheapestIn (i c : ℕ) : Type 0 where
    pub least : ℤ
    pub lowest : Lowest (λ j. entry 64 ok cost j i) c least n
    pub small : (j : ℕ) → j < n → Within 2147483648 (cost i j)

  -- row i has its entries in the table, and the other rows have what they had
  pub record FilledRow (i : ℕ) (keys keys' : List ℤ) : Type 0 where
    pub filled : (j : ℕ) → j < n → cell (pos 0) n keys' j i ≡ entry 64 ok cost j i
    pub others : (j a : ℕ) → j < n → a < n → a ≢ i → cell (pos 0) n keys' j a ≡ cell (pos 0) n keys j a
