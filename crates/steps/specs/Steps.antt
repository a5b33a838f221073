-- Document 01's steps 1 to 6 as a machine: a definition for each step, over exactly what it reads and changes.
use Rattle.std.specs.Prelude.{Bool, false, cond, not, ◌&&◌, List, [], ◌∷◌, ℕ, zero, suc, ◌+◌, ◌*◌, ◌/◌, ◌%◌, eqb, ltb, ℤ, pos, negsuc, ◌+ℤ◌, ◌-ℤ◌, get_or, set}
use Rattle.std.proofs.Math.Option.{Option, none, some}
use Rattle.lines.specs.First.{first, least}
use Rattle.lines.specs.Count.{count}
use Rattle.lines.specs.Square.{cell, table, square, each}
use Rattle.lines.specs.Sets.{has, with, without, those}

-- the step to make, with the place that it carries; or an end
pub data Next : Type 0 where
  Step3 : Next
  Step4 : Next
  Step5 : ℕ → ℕ → Next
  Step6 : Next
  Paired : Next
  NoPairing : Next
  Unfinished : Next

-- the three ends
pub data End : Type 0 where
  paired : End
  no_pairing : End
  unfinished : End

abbrev pub end_of : Next → Option End
end_of Paired = some paired
end_of NoPairing = some no_pairing
end_of Unfinished = some unfinished
end_of Step3 = none
end_of Step4 = none
end_of (Step5 i j) = none
end_of Step6 = none

-- the covered rows and columns, the three counts, and what is next
pub record Run : Type 0 where
  pub rows : ℕ
  pub columns : ℕ
  pub adjustments : ℕ
  pub primes : ℕ
  pub augmentations : ℕ
  pub next : Next

pub record Machine : Type 0 where
  pub run : Run
  pub working : List ℤ
  pub marks : List ℕ
  pub row_prices : List ℤ
  pub column_prices : List ℤ

abbrev pub run_with : ℕ → ℕ → ℕ → ℕ → ℕ → Next → Run
run_with rows columns adjustments primes augmentations next =
    record { rows = rows; columns = columns; adjustments = adjustments; primes = primes; augmentations = augmentations; next = next }

abbrev pub machine : Run → List ℤ → List ℕ → List ℤ → List ℤ → Machine
machine run working marks row_prices column_prices =
    record { run = run; working = working; marks = marks; row_prices = row_prices; column_prices = column_prices }

-- the run with something else next
abbrev pub to : Next → Run → Run
to x r = run_with r.rows r.columns r.adjustments r.primes r.augmentations x

unfoldable pub is_zero : ℤ → Bool
is_zero (pos m) = eqb m 0
is_zero (negsuc m) = false

-- n is the number of rows and of columns, and `ok i j` says that cell (i, j) is allowed. A search that finds nothing gives n.

-- ---- marks: 0 none, 1 star, 2 prime

module _ (n : ℕ) where
  unfoldable pub star_in_row : List ℕ → ℕ → ℕ
  star_in_row marks i = first (λ j. eqb (cell 0 n marks i j) 1) n

  unfoldable pub star_in_column : List ℕ → ℕ → ℕ
  star_in_column marks j = first (λ i. eqb (cell 0 n marks i j) 1) n

  unfoldable pub prime_in_row : List ℕ → ℕ → ℕ
  prime_in_row marks i = first (λ j. eqb (cell 0 n marks i j) 2) n

  -- the columns that have a star, and how many rows have one
  unfoldable pub star_columns : List ℕ → ℕ
  star_columns marks = those (λ j. ltb (star_in_column marks j) n) n

  unfoldable pub star_count : List ℕ → ℕ
  star_count marks = count (λ i. ltb (star_in_row marks i) n) n

-- ---- step 1: the row price is the least allowed cost of the row, and the working value what a cost is above it

module _ (n : ℕ) (ok : ℕ → ℕ → Bool) (cost : ℕ → ℕ → ℤ) where
  unfoldable pub row_price : ℕ → ℤ
  row_price i = cost i (least (ok i) (cost i) n)

  unfoldable pub excess : ℕ → ℕ → ℤ
  excess i j = cond (ok i j) (cost i j -ℤ row_price i) (pos 0)

-- ---- step 2: row by row, left to right, the first zero whose column has no star yet

module _ (n : ℕ) (ok : ℕ → ℕ → Bool) where
  -- a forbidden cell's working value never counts as a zero
  unfoldable pub zero_at : List ℤ → ℕ → ℕ → Bool
  zero_at working i j = ok i j && is_zero (cell (pos 0) n working i j)

  unfoldable pub free_zero : List ℤ → List ℕ → ℕ → ℕ
  free_zero working marks i = first (λ j. zero_at working i j && not (ltb (star_in_column n marks j) n)) n

  unfoldable pub star_row : List ℤ → ℕ → List ℕ → List ℕ
  star_row working i marks =
      let j = free_zero working marks i in
      cond (ltb j n) (set marks (i * n + j) 1) marks

  -- after the first k rows
  unfoldable pub step2 : List ℤ → List ℕ → ℕ → List ℕ
  step2 working marks zero = marks
  step2 working marks (suc k) = star_row working k (step2 working marks k)

  unfoldable pub start : (ℕ → ℕ → ℤ) → Machine
  start cost =
      let working = square (excess n ok cost) n in
      machine (run_with 0 0 0 0 0 Step3) working (step2 working (square (λ i j. 0) n) n) (table (row_price n ok cost) n) (table (λ j. pos 0) n)

-- ---- step 3: the column of each star is covered; with n stars, finish

module _ (n : ℕ) where
  unfoldable pub step3 : List ℕ → Run → Run
  step3 marks r = run_with r.rows (star_columns n marks) r.adjustments r.primes r.augmentations (cond (eqb (star_count n marks) n) Paired Step4)

-- ---- step 4: the first uncovered zero, column by column and downwards in each, is primed

unfoldable pub uncovered : ℕ → ℕ → ℕ → ℕ → Bool
uncovered rows columns i j = not (has rows i) && not (has columns j)

-- the row of the prime has a star, in column s: it is covered, and s uncovered
unfoldable pub covering : ℕ → ℕ → Run → Run
covering i s r = run_with (with r.rows i) (without r.columns s) r.adjustments (r.primes + 1) r.augmentations Step4

-- it has none
unfoldable pub reaching : ℕ → ℕ → Run → Run
reaching i j r = run_with r.rows r.columns r.adjustments (r.primes + 1) r.augmentations (Step5 i j)

module _ (n : ℕ) (ok : ℕ → ℕ → Bool) where
  unfoldable pub zero_in_column : List ℤ → ℕ → ℕ → ℕ → ℕ
  zero_in_column working rows columns j = first (λ i. uncovered rows columns i j && zero_at n ok working i j) n

  unfoldable pub zero_column : List ℤ → ℕ → ℕ → ℕ
  zero_column working rows columns = first (λ j. ltb (zero_in_column working rows columns j) n) n

  unfoldable pub step4 : List ℤ → Run → List ℕ → Run × List ℕ
  step4 working r marks =
      let j = zero_column working r.rows r.columns in
      let i = zero_in_column working r.rows r.columns j in
      let marked = set marks (i * n + j) 2 in
      let s = star_in_row n marked i in
      cond (ltb j n) (cond (ltb s n) (covering i s r) (reaching i j r), marked) (to Step6 r, marks)

-- ---- step 5: every place on the path is flipped, covers and primes are cleared

unfoldable pub clear_primes : List ℕ → List ℕ
clear_primes marks = each (λ q m. cond (eqb m 2) 0 m) marks

unfoldable pub augmenting : Run → Run
augmenting r = run_with 0 0 r.adjustments r.primes (r.augmentations + 1) Step3

module _ (n : ℕ) where
  -- From the prime at (i, j) to the star in its column, to the prime in that star's row, and so on. No row is met twice, so n of them are enough.
  unfoldable pub path : List ℕ → ℕ → ℕ → ℕ → List (ℕ × ℕ)
  path marks zero i j = []
  path marks (suc k) i j =
      let o = star_in_column n marks j in
      (i, j) ∷ cond (ltb o n) ((o, j) ∷ path marks k o (prime_in_row n marks o)) []

  -- a star goes, and a prime becomes a star
  unfoldable pub flip : List ℕ → List (ℕ × ℕ) → List ℕ
  flip marks [] = marks
  flip marks (p ∷ ps) = flip (set marks (p.0 * n + p.1) (cond (eqb (cell 0 n marks p.0 p.1) 1) 0 1)) ps

  unfoldable pub step5 : ℕ → ℕ → Run → List ℕ → Run × List ℕ
  step5 i j r marks = (augmenting r, clear_primes (flip marks (path marks n i j)))

-- ---- step 6: by the least allowed uncovered working value, covered rows become cheaper and uncovered columns dearer

unfoldable pub adjusting : Run → Run
adjusting r = run_with r.rows r.columns (r.adjustments + 1) r.primes r.augmentations Step4

-- a working value follows the prices of its row and its column, each covered or not
unfoldable pub follow : ℤ → Bool → Bool → ℤ → ℤ
follow m row column w = cond row (cond column (w +ℤ m) w) (cond column w (w -ℤ m))

unfoldable pub lowered : ℤ → ℕ → List ℤ → List ℤ
lowered m rows = each (λ i p. cond (has rows i) (p -ℤ m) p)

unfoldable pub raised : ℤ → ℕ → List ℤ → List ℤ
raised m columns = each (λ j p. cond (has columns j) p (p +ℤ m))

module _ (n : ℕ) (ok : ℕ → ℕ → Bool) where
  unfoldable pub lowest : List ℤ → ℕ → ℕ → ℕ
  lowest working rows columns = least (λ q. uncovered rows columns (q / n) (q % n) && ok (q / n) (q % n)) (λ q. get_or working q (pos 0)) (n * n)

  unfoldable pub followed : ℤ → ℕ → ℕ → List ℤ → List ℤ
  followed m rows columns = each (λ q w. cond (ok (q / n) (q % n)) (follow m (has rows (q / n)) (has columns (q % n)) w) w)

  unfoldable pub step6 : ℕ → Run → List ℤ → List ℤ → List ℤ → Run × List ℤ × List ℤ × List ℤ
  step6 budget r working row_prices column_prices =
      let q = lowest working r.rows r.columns in
      let m = get_or working q (pos 0) in
      cond (not (ltb q (n * n))) (to NoPairing r, working, row_prices, column_prices)
      (cond (eqb r.adjustments budget) (to Unfinished r, working, row_prices, column_prices)
      (adjusting r, followed m r.rows r.columns working, lowered m r.rows row_prices, raised m r.columns column_prices))

-- ---- one step, and several

module _ (n : ℕ) (ok : ℕ → ℕ → Bool) (budget : ℕ) where
  unfoldable pub step_at : Next → Machine → Machine
  step_at Step3 m = machine (step3 n m.marks m.run) m.working m.marks m.row_prices m.column_prices
  step_at Step4 m = let o = step4 n ok m.working m.run m.marks in machine o.0 m.working o.1 m.row_prices m.column_prices
  step_at (Step5 i j) m = let o = step5 n i j m.run m.marks in machine o.0 m.working o.1 m.row_prices m.column_prices
  step_at Step6 m =
      let o = step6 n ok budget m.run m.working m.row_prices m.column_prices in
      machine o.0 o.1 m.marks o.2 o.3
  step_at Paired m = m
  step_at NoPairing m = m
  step_at Unfinished m = m

  unfoldable pub step : Machine → Machine
  step m = step_at m.run.next m

  unfoldable pub steps : ℕ → Machine → Machine
  steps zero m = m
  steps (suc k) m = steps k (step m)
