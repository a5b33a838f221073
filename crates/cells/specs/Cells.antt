-- What an accepted file says of each pair: whether it is allowed, and its cost.
use Rattle.std.specs.Prelude.{Bool, cond, not, ◌&&◌, List, ℕ, ◌+◌, ◌-◌, eqb, ltb, ℤ, pos}
use Rattle.judgement.specs.Scan.{Scan}
use Rattle.judgement.specs.Says.{row_area, row_clock, column_area, column_clock}

module _ (file : List ℕ) (s : Scan) where
  -- the absolute difference of the clocks
  unfoldable pub clock_error : ℕ → ℕ → ℕ
  clock_error i j = (row_clock file s i - column_clock file s j) + (column_clock file s j - row_clock file s i)

  -- equal areas, and clocks at most the window apart
  unfoldable pub may_pair : ℕ → ℕ → Bool
  may_pair i j = eqb (row_area file s i) (column_area file s j) && not (ltb s.window (clock_error i j))

  -- a forbidden cell gets cost 0
  unfoldable pub pair_cost : ℕ → ℕ → ℤ
  pair_cost i j = cond (may_pair i j) (pos (clock_error i j)) (pos 0)

  unfoldable pub mask_byte : ℕ → ℕ → ℕ
  mask_byte i j = cond (may_pair i j) 1 0
