-- What each of steps 3 to 6 asks of what it is handed.
use Rattle.std.specs.Prelude.{◌≡◌, ◌≢◌, List, ℕ, ◌+◌, ◌*◌, ◌^◌, ◌≤◌, ◌<◌, ℤ, pos, length, get_or}
use Rattle.lines.specs.Square.{cell}
use Rattle.steps.specs.Lent.{allows}
use Rattle.steps.specs.Steps.{Run, star_in_row, lowest}
use Rattle.steps.specs.Going.{Ends}
use Rattle.ground.specs.Square.{Square, InWord, Grid, Flags}
use Rattle.ground.specs.Good.{Adjusts}

-- a star is the first of its row, so its only one
abbrev pub OneStarARow : ℕ → List ℕ → Type 0
OneStarARow n marks = (i j : ℕ) → i < n → j < n → cell 0 n marks i j ≡ 1 → star_in_row n marks i ≡ j

pub record ForStep3 (n : ℕ) (marks : List ℕ) : Type 0 where
  pub word : InWord n
  pub marks_square : Square n marks
  pub one_star : OneStarARow n marks

pub record ForStep4 (n : ℕ) (mask : List ℕ) (primes : ℕ) (working : List ℤ) (marks : List ℕ) : Type 0 where
  pub grid : Grid n mask working
  pub marks_square : Square n marks
  pub more : primes + 1 < 2 ^ 32

pub record ForStep5 (n : ℕ) (augmentations row column : ℕ) (marks : List ℕ) : Type 0 where
  pub most : n ≤ 64
  pub marks_square : Square n marks
  pub ends : Ends n marks n row column
  pub more : augmentations + 1 < 2 ^ 32

-- where it has a minimum and the budget is not spent it adjusts by it
pub record ForStep6 (n : ℕ) (mask : List ℕ) (budget : ℕ) (r : Run) (working row_prices column_prices : List ℤ) : Type 0 where
  pub grid : Grid n mask working
  pub flags : Flags mask
  pub row_lines : length row_prices ≡ n
  pub column_lines : length column_prices ≡ n
  pub spare : r.adjustments ≤ budget
  pub adjusts : r.adjustments ≢ budget → let q = lowest n (allows n mask) working r.rows r.columns in
      q < n * n → Adjusts n (allows n mask) r.rows r.columns (get_or working q (pos 0)) working row_prices column_prices
