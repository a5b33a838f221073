-- What the functions ask of what they are handed.
use Rattle.std.specs.Prelude.{◌≡◌, ◌≢◌, true, false, List, ℕ, ◌+◌, ◌*◌, ◌≤◌, ◌<◌, ℤ, pos, ◌≤ℤ◌, length, get_or}
use Rattle.std.specs.Int.Signed.{lt_z}
use Rattle.lines.specs.Bounds.{Within}
use Rattle.lines.specs.Sets.{has, rest}
use Rattle.ground.specs.Square.{Square, InWord}
use Rattle.keyed.specs.Keys.{limit, row_of, column_of}
use Rattle.keyed.specs.Opening.{NoneCheaper, Known}

-- costs and mask, and room for their keys
pub record Fills (n : ℕ) (costs : List ℤ) (mask : List ℕ) (keys : List ℤ) : Type 0 where
  pub most : n ≤ 64
  pub costs_square : Square n costs
  pub mask_square : Square n mask
  pub keys_square : Square n keys

-- a cost of 32 bits, and lines that the base holds
pub record Packs (value : ℤ) (column row : ℕ) : Type 0 where
  pub small : Within 2147483648 value
  pub column_bit : column < 64
  pub row_bit : row < 64

-- an entry and prices that can be taken off it
pub record LessPrices (entry row_price price : ℤ) : Type 0 where
  pub entry_within : Within 4611686018427387904 entry
  pub row_within : Within 140737488355328 row_price
  pub price_within : Within 140737488355328 price

-- a column that opens
pub record Lowers (n : ℕ) (keys row_prices : List ℤ) (column : ℕ) (price : ℤ) : Type 0 where
  pub word : InWord n
  pub keys_square : Square n keys
  pub row_lines : length row_prices ≡ n
  pub below : column < n
  pub price_within : Within 140737488355328 price
  pub row_within : (i : ℕ) → i < n → Within 140737488355328 (get_or row_prices i (pos 0))
  pub entry_within : (i : ℕ) → i < n → Within 4611686018427387904 (get_or keys (column * n + i) (pos 0))

-- the least key may be taken apart: the place that it names is there
abbrev pub Names : ℕ → ℤ → Type 0
Names n best = lt_z best limit ≡ true → (pos 0 ≤ℤ best) × (row_of 64 best < n) × (column_of 64 best < n)

-- what the arithmetic of steps 3 and 4 asks: sizes, and numbers far from the limits of 64 bits
pub record Safe (n : ℕ) (risen : ℤ) (keys row_prices column_prices : List ℤ) : Type 0 where
  pub word : InWord n
  pub keys_square : Square n keys
  pub row_lines : length row_prices ≡ n
  pub column_lines : length column_prices ≡ n
  pub row_within : (i : ℕ) → i < n → Within 1099511627776 (get_or row_prices i (pos 0))
  pub column_within : (j : ℕ) → j < n → Within 1099511627776 (get_or column_prices j (pos 0))
  pub risen_within : Within 1099511627776 risen
  pub entry_within : (q : ℕ) → q < n * n → Within 4611686018427387904 (get_or keys q (pos 0))

-- a row whose cheapest open column is asked
pub record Searches (n columns : ℕ) (keys row_prices column_prices : List ℤ) (row : ℕ) : Type 0 where
  pub safe : Safe n (pos 0) keys row_prices column_prices
  pub below : row < n
  pub some : rest n columns ≢ 0

pub record Chooses (n columns : ℕ) (keys row_prices column_prices : List ℤ) (row column : ℕ) : Type 0 where
  pub searches : Searches n columns keys row_prices column_prices row
  pub known : column < n → has columns column ≡ false → NoneCheaper n columns keys row_prices column_prices row column

-- all rows
pub record OpensColumns (n columns : ℕ) (keys row_prices column_prices : List ℤ) (cheapest : List ℕ) : Type 0 where
  pub safe : Safe n (pos 0) keys row_prices column_prices
  pub some : rest n columns ≢ 0
  pub known : Known n columns keys row_prices column_prices cheapest
