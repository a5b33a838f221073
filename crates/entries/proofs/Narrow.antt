-- What the numbers of the lists keep, so that every line has its length.
use mathlib.Core.Path.{◌≡◌}
use mathlib.Core.List.{List}
use Prim.Native.Nat.{ℕ, ◌≤◌, ◌<◌}
use lib.IntN.{ℤ, pos}
use lib.ListN.{length, get_or}
use Rattle.lines.specs.Square.{cell}
use Rattle.text.specs.Numbers.{signed}

-- the numbers of n rows that are printed in columns: at most 13 signs each
pub record Narrow (n : ℕ) (huts : List ℕ) (costs : List ℤ) (mask : List ℕ) (working : List ℤ) (columns : List ℕ) (row_prices column_prices : List ℤ) : Type 0 where
  pub small : n ≤ 64
  pub huts_small : (i : ℕ) → i < n → get_or huts i 0 < 65_536
  pub below : (i : ℕ) → i < n → get_or columns i 0 < n
  pub pairs : (i : ℕ) → i < n → length (signed (cell (pos 0) n costs i (get_or columns i 0))) ≤ 13
  pub rows : (i : ℕ) → i < n → length (signed (get_or row_prices i (pos 0))) ≤ 13
  pub events : (j : ℕ) → j < n → length (signed (get_or column_prices j (pos 0))) ≤ 13
  pub cells : (i j : ℕ) → i < n → j < n → cell 0 n mask i j ≡ 1 → length (signed (cell (pos 0) n costs i j)) ≤ 13
  pub spares : (i j : ℕ) → i < n → j < n → cell 0 n mask i j ≡ 1 → length (signed (cell (pos 0) n working i j)) ≤ 13

-- the three sums: at most 15 signs each
pub record Sums (total rows events : ℤ) : Type 0 where
  pub total_short : length (signed total) ≤ 15
  pub rows_short : length (signed rows) ≤ 15
  pub events_short : length (signed events) ≤ 15
