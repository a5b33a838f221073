-- What bounds a run, wherever it began: how large prices and working values become, and how much is left to do.
use Rattle.std.specs.Prelude.{Bool, false, not, cond, List, ℕ, ◌+◌, ◌-◌, ◌*◌, ◌≤◌, ◌<◌, max, T, ltb, ℤ, pos, neg_ℤ, ◌+ℤ◌, ◌≤ℤ◌, get_or}
use Rattle.lines.specs.Count.{count}
use Rattle.lines.specs.Sets.{has}
use Rattle.lines.specs.Bounds.{Within}
use Rattle.steps.specs.Steps.{Next, Step3, Step4, Step5, Step6, Paired, NoPairing, Unfinished, Machine, star_in_row, star_in_column, star_count, zero_column}
use Rattle.steps.specs.Promise.{InLimits}

-- ---- limits. All follows from the column prices: a row without a star keeps its price, and the price of a row with a star is a cost less the price of the
-- star's column.

-- how many rows below n have a star, by the columns of the stars
abbrev pub stars : ℕ → (ℕ → ℕ) → ℕ
stars n star = count (λ i. ltb (star i) n) n

-- Costs are within C; at the start of the run row prices are within A and column prices within B.
-- `star i` is the column of row i's star and `row j` the row of column j's star, and a number not below n says that there is none.
-- r and c are the covered rows and columns, rp and cp the row and column prices.
pub record Limits (n C A B : ℕ) (star row : ℕ → ℕ) (r c : ℕ → Bool) (rp cp : ℕ → ℤ) : Type 0 where
  -- the sum of all minima of step 6 so far, and of those before this phase
  pub sunk : ℕ
  pub before : ℕ
  pub low : (j : ℕ) → j < n → neg_ℤ (pos B) ≤ℤ cp j
  pub high : (j : ℕ) → j < n → cp j ≤ℤ pos (B + sunk)
  -- a column without a star has risen each time
  pub bare : (j : ℕ) → j < n → n ≤ row j → pos sunk ≤ℤ (cp j +ℤ pos B)
  -- a row without a star never fell
  pub flat : (i : ℕ) → i < n → n ≤ star i → Within A (rp i)
  -- each row that is covered lets an uncovered column lie 2 C further back
  pub near : (j : ℕ) → j < n → T (not (c j)) → pos sunk ≤ℤ (cp j +ℤ pos (B + 2 * C * count r n))
  -- a covered column has not risen in this phase
  pub still : (j : ℕ) → j < n → T (c j) → cp j ≤ℤ pos (B + before)
  -- the last minimum lay in a row with a star, or in one without
  pub rise : sunk ≤ max (before + 2 * B + 2 * C) (C + A + B) + 2 * C * count r n
  -- no phase has ended yet, or the last prime of the one before lay in a row without a star
  pub past : before + C ≤ max C (A + B + 2 * C * stars n star)

-- what bounds all prices and working values of a run
abbrev pub limit : ℕ → ℕ → ℕ → ℕ → ℕ
limit n C A B = A + 5 * B + C + 4 * C * n

module _ (n C A B : ℕ) where
  -- with the stars of these marks, these covered rows and columns, and these prices
  abbrev pub Limits_on : List ℕ → (ℕ → Bool) → (ℕ → Bool) → List ℤ → List ℤ → Type 0
  Limits_on marks r c row_prices column_prices =
      Limits n C A B (star_in_row n marks) (star_in_column n marks) r c (λ i. get_or row_prices i (pos 0)) (λ j. get_or column_prices j (pos 0))

  -- between phases, with the covers that step 3 makes, and in a phase
  abbrev pub Between : Machine → Type 0
  Between m = Limits_on m.marks (λ i. false) (λ j. ltb (star_in_column n m.marks j) n) m.row_prices m.column_prices

  abbrev pub During : Machine → Type 0
  During m = Limits_on m.marks (has m.run.rows) (has m.run.columns) m.row_prices m.column_prices

  -- by what is next
  abbrev pub Limited_at : Next → Machine → Type 0
  Limited_at Step3 m = Between m
  Limited_at Step4 m = During m
  Limited_at (Step5 i j) m = During m
  Limited_at Step6 m = During m
  Limited_at Paired m = Between m
  Limited_at NoPairing m = During m
  Limited_at Unfinished m = During m

  pub record Limited (m : Machine) : Type 0 where
    pub at_next : Limited_at m.run.next m

-- no price and no working value of a machine is more than L away from 0
abbrev pub Bounded : ℕ → ℕ → Machine → Type 0
Bounded n L m = InLimits n L m.row_prices m.column_prices m.working

-- ---- what is left to do

module _ (n : ℕ) (ok : ℕ → ℕ → Bool) where
  -- 1 where step 4 will find a zero, and 3 where it will not
  unfoldable pub waits : List ℤ → ℕ → ℕ → ℕ
  waits working rows columns = cond (ltb (zero_column n ok working rows columns) n) 1 3

  -- what is left to do: stars that are missing, rows to cover, and the step
  unfoldable pub turn : Next → Machine → ℕ
  turn Step3 m = 4
  turn Step4 m = waits m.working m.run.rows m.run.columns
  turn (Step5 i j) m = 0
  turn Step6 m = 2
  turn Paired m = 0
  turn NoPairing m = 0
  turn Unfinished m = 0

  unfoldable pub left_at : Next → Machine → ℕ
  left_at x m = (n - star_count n m.marks) * (4 * n + 8) + 4 * (n - count (has m.run.rows) n) + turn x m

  unfoldable pub left : Machine → ℕ
  left m = left_at m.run.next m

  -- each count, with what is left to do, is at most l
  pub record Few (l : ℕ) (m : Machine) : Type 0 where
    pub adjustments : m.run.adjustments + left m ≤ l
    pub primes : m.run.primes + left m ≤ l
    pub augmentations : m.run.augmentations + left m ≤ l
