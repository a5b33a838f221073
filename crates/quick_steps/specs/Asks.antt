-- What the steps ask of what they are handed.
use Rattle.std.specs.Prelude.{◌≡◌, ◌≢◌, true, List, ℕ, ◌+◌, ◌^◌, ◌≤◌, ◌<◌, T, ltb, ℤ, pos, ◌≤ℤ◌, length, get_or}
use Rattle.std.specs.Int.Signed.{lt_z}
use Rattle.std.specs.Int.{w64}
use Rattle.std.proofs.Common.{SFits}
use Rattle.lines.specs.First.{any}
use Rattle.lines.specs.Count.{count}
use Rattle.lines.specs.Sets.{rest}
use Rattle.steps.specs.Lent.{allows}
use Rattle.ground.specs.Prices.{AdjustsPrices}
use Rattle.keyed.specs.Keys.{limit}
use Rattle.keyed.specs.Opening.{Known}
use Rattle.starred.specs.Columns.{starred}
use Rattle.keyed.specs.Asks.{Fills, Names, Safe}
use Rattle.starred.specs.Flipping.{Follows}
use Rattle.quick_steps.specs.Ways.{change}
use Rattle.quick_steps.specs.declared.State.{State}

pub record Starts (n : ℕ) (costs : List ℤ) (mask : List ℕ) (keys row_prices column_prices : List ℤ) : Type 0 where
  pub fills : Fills n costs mask keys
  pub rows : (i : ℕ) → i < n → T (any (allows n mask i) n)
  pub row_lines : length row_prices ≡ n
  pub column_lines : length column_prices ≡ n

pub record ForStep3 (n : ℕ) (keys row_prices column_prices : List ℤ) (star owner cheapest : List ℕ) : Type 0 where
  pub safe : Safe n (pos 0) keys row_prices column_prices
  -- with a star missing, a column is free
  pub some : count (λ i. ltb (get_or star i 0) n) n ≢ n → rest n (starred n owner) ≢ 0
  pub known : Known n (starred n owner) keys row_prices column_prices cheapest

pub record ForStep4 (n : ℕ) (s : State) (keys row_prices column_prices : List ℤ) : Type 0 where
  pub safe : Safe n s.risen keys row_prices column_prices
  pub names : Names n s.best
  pub more : s.run.primes + 1 < 2 ^ 32

pub record ForStep5 (n : ℕ) (s : State) (row column : ℕ) (owner prime : List ℕ) : Type 0 where
  pub most : n ≤ 64
  pub follows : Follows n prime n owner row column
  pub more : s.run.augmentations + 1 < 2 ^ 32

-- where there is a least key and the budget is not spent it adjusts by its value less what has risen
pub record ForStep6 (n budget : ℕ) (s : State) (row_prices column_prices : List ℤ) : Type 0 where
  pub spare : s.run.adjustments ≤ budget
  pub whole : lt_z s.best limit ≡ true → pos 0 ≤ℤ s.best
  pub fits : lt_z s.best limit ≡ true → s.run.adjustments ≢ budget → SFits w64 (change s)
  pub adjusts : lt_z s.best limit ≡ true → s.run.adjustments ≢ budget
      → AdjustsPrices n s.run.rows s.run.columns (change s) row_prices column_prices
