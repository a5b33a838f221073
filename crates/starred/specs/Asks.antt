-- What the functions ask of what they are handed.
use Rattle.std.specs.Prelude.{◌≡◌, false, ◌&&◌, List, ℕ, ◌≤◌, ◌<◌, ℤ, pos, ◌-ℤ◌, length, get_or}
use Rattle.lines.specs.Square.{table}
use Rattle.lines.specs.Bounds.{Within}
use Rattle.steps.specs.Lent.{allows, cost_at}
use Rattle.steps.specs.Steps.{is_zero, row_price}
use Rattle.ground.specs.Square.{Square}

-- no zero of a row with this price stands before a column
abbrev pub NoneBefore : ℕ → List ℤ → List ℕ → ℕ → ℤ → ℕ → Type 0
NoneBefore n costs mask row price column = (j : ℕ) → j < column → (allows n mask row j && is_zero (cost_at n costs row j -ℤ price)) ≡ false

-- step 2 on costs: the prices of the rows are those of step 1
pub record StarsRows (n : ℕ) (costs : List ℤ) (mask : List ℕ) (row_prices : List ℤ) (cheapest : List ℕ) : Type 0 where
  pub most : n ≤ 64
  pub costs_square : Square n costs
  pub mask_square : Square n mask
  pub prices : row_prices ≡ table (row_price n (allows n mask) (cost_at n costs)) n
  pub small : (i : ℕ) → i < n → Within 2147483648 (row_price n (allows n mask) (cost_at n costs) i)
  pub before : (i : ℕ) → i < n → NoneBefore n costs mask i (row_price n (allows n mask) (cost_at n costs) i) (get_or cheapest i 0)

-- one row of it
pub record StarsRow (n : ℕ) (costs : List ℤ) (mask : List ℕ) (row : ℕ) (price : ℤ) (from : ℕ) : Type 0 where
  pub most : n ≤ 64
  pub costs_square : Square n costs
  pub mask_square : Square n mask
  pub below : row < n
  pub small : Within 2147483648 price
  pub before : NoneBefore n costs mask row price from

-- one cell
pub record CostsPrice (place : ℕ) (price : ℤ) (costs : List ℤ) (mask : List ℕ) : Type 0 where
  pub costs_long : place < length costs
  pub mask_long : place < length mask
  pub small : Within 2147483648 price

-- a column of each row, whose cost is its price
pub record PricesRows (n : ℕ) (costs : List ℤ) (cheapest : List ℕ) (row_prices : List ℤ) : Type 0 where
  pub most : n ≤ 64
  pub costs_square : Square n costs
  pub row_lines : length row_prices ≡ n
  pub below : (i : ℕ) → i < n → get_or cheapest i 0 < n

pub record WritesRow (n : ℕ) (costs : List ℤ) (mask : List ℕ) (row : ℕ) (price : ℤ) (column_prices working : List ℤ) : Type 0 where
  pub costs_square : Square n costs
  pub mask_square : Square n mask
  pub working_square : Square n working
  pub below : row < n
  pub price_within : Within 1099511627776 price
  pub column_lines : length column_prices ≡ n
  pub column_within : (j : ℕ) → j < n → Within 1099511627776 (get_or column_prices j (pos 0))

pub record WritesWorking (n : ℕ) (costs : List ℤ) (mask : List ℕ) (row_prices column_prices working : List ℤ) : Type 0 where
  pub costs_square : Square n costs
  pub mask_square : Square n mask
  pub working_square : Square n working
  pub row_lines : length row_prices ≡ n
  pub column_lines : length column_prices ≡ n
  pub row_within : (i : ℕ) → i < n → Within 1099511627776 (get_or row_prices i (pos 0))
  pub column_within : (j : ℕ) → j < n → Within 1099511627776 (get_or column_prices j (pos 0))
