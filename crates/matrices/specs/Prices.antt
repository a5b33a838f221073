-- What is asked where working values are made by row prices, and where they follow the prices.
use Rattle.std.specs.Prelude.{Bool, List, ℕ, ◌+◌, ◌*◌, ◌<◌, T, ℤ, pos, get_or}
use Rattle.std.specs.Int.{w64}
use Rattle.std.proofs.Common.{SFits}
use Rattle.lines.specs.Sets.{has}
use Rattle.lines.specs.Bounds.{Within}
use Rattle.steps.specs.Lent.{allows}
use Rattle.steps.specs.Steps.{follow, followed}
use Rattle.ground.specs.Square.{Square, Flags, Grid, Fit64}
use Rattle.ground.specs.Prices.{InRow, ForRowPrices}

-- step 1: of one row, and of all
pub record SubtractsRow (n : ℕ) (costs : List ℤ) (mask : List ℕ) (row : ℕ) (price : ℤ) (working : List ℤ) : Type 0 where
  pub in_row : InRow n costs mask row
  pub working_square : Square n working
  pub small : Within 2147483648 price

pub record Subtracts (n : ℕ) (costs : List ℤ) (mask : List ℕ) (working row_prices : List ℤ) : Type 0 where
  pub prices : ForRowPrices n costs mask row_prices
  pub working_square : Square n working

-- step 6: every changed value fits 64 bits: of one row, and of all
pub record FollowsRow (n : ℕ) (mask : List ℕ) (columns row : ℕ) (covered : Bool) (change : ℤ) (working : List ℤ) : Type 0 where
  pub grid : Grid n mask working
  pub flags : Flags mask
  pub below : row < n
  pub fits : SFits w64 change
  pub values : (j : ℕ) → j < n → T (allows n mask row j) → SFits w64 (follow change covered (has columns j) (get_or working (row * n + j) (pos 0)))

pub record Follows (n : ℕ) (mask : List ℕ) (rows columns : ℕ) (change : ℤ) (working : List ℤ) : Type 0 where
  pub grid : Grid n mask working
  pub flags : Flags mask
  pub fits : SFits w64 change
  pub values : Fit64 (followed n (allows n mask) change rows columns working)
