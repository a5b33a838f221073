-- What the prices' functions ask, and the prices of a set of lines that change alike.
use Rattle.std.specs.Prelude.{◌≡◌, cond, List, ℕ, ◌^◌, ◌≤◌, ◌<◌, T, ℤ, neg_ℤ, ◌+ℤ◌, length}
use Rattle.std.specs.Int.{w64}
use Rattle.std.proofs.Common.{SFits}
use Rattle.lines.specs.First.{any}
use Rattle.lines.specs.Square.{each}
use Rattle.lines.specs.Sets.{has}
use Rattle.steps.specs.Lent.{allows}
use Rattle.steps.specs.Steps.{lowered, raised}
use Rattle.ground.specs.Square.{Square, InWord, Fit64}

-- a row of costs and mask
pub record InRow (n : ℕ) (costs : List ℤ) (mask : List ℕ) (row : ℕ) : Type 0 where
  pub costs_square : Square n costs
  pub mask_square : Square n mask
  pub below : row < n

-- rows with an allowed cell each, and room for their prices
pub record ForRowPrices (n : ℕ) (costs : List ℤ) (mask : List ℕ) (row_prices : List ℤ) : Type 0 where
  pub costs_square : Square n costs
  pub mask_square : Square n mask
  pub row_lines : length row_prices ≡ n
  pub rows : (i : ℕ) → i < n → T (any (allows n mask i) n)

unfoldable pub shifted : ℤ → ℕ → List ℤ → List ℤ
shifted z lines = each (λ i p. cond (has lines i) (p +ℤ z) p)

-- a set of at most 64 lines, whose changed prices fit 64 bits
pub record Shifts (lines : ℕ) (change : ℤ) (prices : List ℤ) : Type 0 where
  pub most : length prices ≤ 64
  pub within : lines < 2 ^ length prices
  pub values : Fit64 (shifted change lines prices)

-- an adjustment, after which all prices fit
pub record AdjustsPrices (n rows columns : ℕ) (change : ℤ) (row_prices column_prices : List ℤ) : Type 0 where
  pub word : InWord n
  pub row_lines : length row_prices ≡ n
  pub column_lines : length column_prices ≡ n
  pub back : SFits w64 (neg_ℤ change)
  pub lower : Fit64 (lowered change rows row_prices)
  pub higher : Fit64 (raised change columns column_prices)
