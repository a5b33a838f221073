-- Laws of cells: what the code reads for one cell is what the definition says of it.
use mathlib.Core.Path.{◌≡◌, refl}
use mathlib.Core.Bool.{Bool, true, false, not, cond, ◌&&◌}
use mathlib.Core.List.{List}
use Prim.Native.Nat.{ℕ, ◌+◌, ◌-◌}
use lib.Dec.{eqb, ltb}
use lib.IntN.{ℤ, pos}
use lib.ListN.{get_or}
use Rattle.std.specs.Int.{from_bool}
use Rattle.lines.proofs.Rows.{RowPassed, RowsPassed}
use Rattle.lines.proofs.Bounds.{RowFits}
use Rattle.judgement.specs.Numbers.{u16_at, u32_at}
use Rattle.judgement.specs.Scan as D
use Rattle.judgement.specs.Says.{row_area, row_clock, column_area, column_clock}
use Rattle.cells.specs.Cells.{clock_error, may_pair, pair_cost, mask_byte}

-- a flag as a byte
pub byte_of : (b : Bool) → from_bool b ≡ cond b 1 0
byte_of true = refl
byte_of false = refl

-- a row whose first columns are done in both buffers
pub record RowDone (file : List ℕ) (s : D.Scan) (row : ℕ) (costs₀ costs : List ℤ) (mask₀ mask : List ℕ) (column : ℕ) : Type 0 where
  pub fits : RowFits s.n row
  pub costs_done : RowPassed (pos 0) s.n row (λ j w. pair_cost file s row j) costs₀ costs column
  pub mask_done : RowPassed 0 s.n row (λ j w. mask_byte file s row j) mask₀ mask column

-- the first rows, done in both buffers
pub record RowsDone (file : List ℕ) (n : ℕ) (s : D.Scan) (costs₀ costs : List ℤ) (mask₀ mask : List ℕ) (row : ℕ) : Type 0 where
  pub costs_done : RowsPassed (pos 0) n (λ i j w. pair_cost file s i j) costs₀ costs row
  pub mask_done : RowsPassed 0 n (λ i j w. mask_byte file s i j) mask₀ mask row

module _ (file : List ℕ) (s : D.Scan) (i j : ℕ) where
  -- what the code reads of the fragment, of the event, and makes of both
  module _ {area clock event_area event_clock error : ℕ} {allowed : Bool}
      (ea : area ≡ u16_at file (get_or s.fragments i 0 + 3)) (ec : clock ≡ u32_at file (get_or s.fragments i 0 + 5))
      (eb : event_area ≡ u16_at file (get_or s.events j 0 + 1)) (ed : event_clock ≡ u32_at file (get_or s.events j 0 + 3))
      (ee : error ≡ (clock - event_clock) + (event_clock - clock)) (ef : allowed ≡ (eqb area event_area && not (ltb s.window error))) where
    error_is : error ≡ clock_error file s i j
    unfolding clock_error row_clock column_clock
    error_is = rw (ee, ec, ed) refl

    allowed_is : allowed ≡ may_pair file s i j
    unfolding may_pair row_area column_area
    allowed_is = rw (← error_is, ef, ea, eb) refl

    pub cell_is : (cond allowed (pos error) (pos 0) ≡ pair_cost file s i j) × (cond allowed 1 0 ≡ mask_byte file s i j)
    unfolding pair_cost mask_byte
    cell_is = (rw (← error_is, ← allowed_is) refl, rw (← allowed_is) refl)
