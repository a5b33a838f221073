-- Stars as the loops of steps 2 and 3 keep them: the set of the columns that have one, and how many there are.
use mathlib.Core.Path.{◌≡◌, refl, sym, ap, ap₂, ◌∙◌}
use mathlib.Core.Bool.{Bool, not, cond, ◌&&◌, ◌||◌}
use mathlib.Core.List.{List}
use Prim.Native.Nat.{ℕ, ◌+◌, ◌*◌, ◌^◌, ◌≤◌, ◌<◌}
use native.Mathlib.Numerals.{add-one}
use native.Mathlib.Omega.{arith}
use borrow.Author.Tests.{lt-ltb, le-ltb, eqb-true, eqb-false, ne_eqb}
use lib.Dec.{eqb, ltb, eqb→eq}
use lib.IntN.{ℤ, pos}
use lib.ListN.{length, set, length-set}
use lib.Pow.{pow_pos}
use Rattle.lines.specs.Sum.{sum}
use Rattle.lines.specs.Count.{count}
use Rattle.std.specs.Prelude.{Some, None}
use Rattle.lines.specs.First.{first, any, found}
use Rattle.lines.specs.Square.{cell, table, square}
use Rattle.lines.specs.Sets.{has, with}
use Rattle.lines.proofs.Tests.{T_true, T_same, eqb_yes, by_cases}
use Rattle.lines.proofs.Puts.{put2, put2_at, put2_off}
use Rattle.lines.proofs.Counts.{count_le}
use Rattle.lines.proofs.Firsts.{first_is, first_ext, first_none, any_yes, some_found, none_found}
use Rattle.lines.proofs.Sets.{ext, has_empty, has_those, has_with, those_lt, with_lt}
use Rattle.lines.proofs.Squares.{cell_set, length_square, square_all}
use Rattle.lines.proofs.Loops.{any_more, count_yes, count_no}
use Rattle.steps.specs.Steps.{Run, Step4, Paired, run_with, machine, star_in_row, star_in_column, star_columns, star_count, excess, row_price, zero_at, free_zero, star_row, step2, start, step3}
use Rattle.steps.specs.Outcome.{no_run}
use Rattle.munkres.specs.ForSteps.{OneStarARow}

-- ---- step 2

-- column j gets a star, and the other columns are as before
column_starred : (n : ℕ) (marks : List ℕ) (i j b : ℕ) → length marks ≡ n * n → i < n → j < n → b < n
    → ltb (star_in_column n (set marks (i * n + j) 1) b) n ≡ (eqb j b || ltb (star_in_column n marks b) n)
unfolding star_in_column any
column_starred n marks i j b size hi hj hb =
    by_cases (eqb j b)
    (λ y. rw y (T_true (any test n) (any_yes test n i hi
    (eqb_yes _ 1 (after i ∙ put2_at (cell 0 n marks) i j 1 i b refl (sym (eqb-true j b y)))))))
    (λ y. rw y (ap (λ x. ltb x n) (first_ext _ _ n (λ k hk. ap (λ x. eqb x 1) (after k ∙ put2_off (cell 0 n marks) i j 1 k b (λ p e. eqb-false j b y (sym e)))))))
  where
    test : ℕ → Bool
    test k = eqb (cell 0 n (set marks (i * n + j) 1) k b) 1

    after : (k : ℕ) → cell 0 n (set marks (i * n + j) 1) k b ≡ put2 (cell 0 n marks) i j 1 k b
    after k = cell_set 0 n marks i j 1 k b size hi hj hb

-- after the first `row` rows: the marks, and the set of the columns that have a star
pub record Taken (n : ℕ) (ok : ℕ → ℕ → Bool) (working : List ℤ) (marks : List ℕ) (taken row : ℕ) : Type 0 where
  pub size : length marks ≡ n * n
  pub made : marks ≡ step2 n ok working (square (λ i j. 0) n) row
  pub same : (j : ℕ) → j < n → has taken j ≡ ltb (star_in_column n marks j) n

module _ (n : ℕ) (ok : ℕ → ℕ → Bool) (working : List ℤ) where
  pub taken_none : (marks : List ℕ) → marks ≡ square (λ i j. 0) n → Taken n ok working marks 0 0
  unfolding step2 star_in_column
  taken_none marks e =
      let none : (j : ℕ) → star_in_column n (square (λ i j. 0) n) j ≡ n = λ j. first_none _ n (λ i hi. rw (square_all {A = ℕ} 0 n i j) tt) in
      rw e (record { size = length_square (λ i j. 0) n; made = refl; same = λ j hj. has_empty j ∙ sym (le-ltb _ n (omega (arith, none j))) })

  module _ (marks : List ℕ) (taken row : ℕ) (s : Taken n ok working marks taken row) where
    free : first (λ j. zero_at n ok working row j && not (has taken j)) n ≡ free_zero n ok working marks row
    unfolding free_zero
    free = first_ext _ _ n (λ j h. ap (λ x. zero_at n ok working row j && not x) (s.same j h))

    next : star_row n ok working row marks ≡ step2 n ok working (square (λ i j. 0) n) (row + 1)
    unfolding step2
    next = ap (star_row n ok working row) s.made ∙ sym (ap (step2 n ok working (square (λ i j. 0) n)) (add-one row))

    pub taken_star : (column : ℕ) → row < n → Some column ≡ found n (first (λ j. zero_at n ok working row j && not (has taken j)) n)
        → Taken n ok working (set marks (row * n + column) 1) (with taken column) (row + 1)
    unfolding star_row
    taken_star column hr e =
        let zero = some_found n _ column (sym e) in
        record {
          size = length-set marks (row * n + column) 1 ∙ s.size;
          made = rw (← free, zero.0, lt-ltb column n zero.1) refl ∙ next;
          same = λ j hj. has_with taken column j ∙ ap (λ x. eqb column j || x) (s.same j hj) ∙ sym (column_starred n marks row column j s.size hr zero.1 hj);
        }

    pub taken_skip : None ≡ found n (first (λ j. zero_at n ok working row j && not (has taken j)) n) → Taken n ok working marks taken (row + 1)
    unfolding star_row
    taken_skip e = record { size = s.size; made = rw (← free, le-ltb _ n (none_found n _ (sym e))) refl ∙ next; same = s.same }

-- the start, from what each part of it leaves
pub start_made : (n : ℕ) (ok : ℕ → ℕ → Bool) (cost : ℕ → ℕ → ℤ) (r : Run) (working : List ℤ) (marks : List ℕ) (row_prices column_prices : List ℤ)
    → r ≡ no_run → working ≡ square (excess n ok cost) n → marks ≡ step2 n ok working (square (λ i j. 0) n) n
    → row_prices ≡ table (row_price n ok cost) n → column_prices ≡ table (λ j. pos 0) n
    → machine r working marks row_prices column_prices ≡ start n ok cost
unfolding start
start_made n ok cost r working marks row_prices column_prices e w m p c = rw (e, m, w, p, c)

-- ---- step 3

-- after the first k rows: the columns that have a star there, and how many of the rows have one
pub record Gathered (n : ℕ) (marks : List ℕ) (columns stars k : ℕ) : Type 0 where
  pub low : columns < 2 ^ n
  pub same : (j : ℕ) → j < n → has columns j ≡ any (λ i. eqb (cell 0 n marks i j) 1) k
  pub counted : stars ≡ count (λ i. ltb (star_in_row n marks i) n) k

pub gathered_none : (n : ℕ) (marks : List ℕ) → Gathered n marks 0 0 0
unfolding first any count sum
gathered_none n marks = record { low = pow_pos n; same = λ j h. has_empty j; counted = refl }

pub gathered_few : {n : ℕ} {marks : List ℕ} {columns stars k : ℕ} → Gathered n marks columns stars k → stars ≤ k
gathered_few {n} {marks} {columns} {stars} {k} g = omega (arith, g.counted, count_le (λ i. ltb (star_in_row n marks i) n) k)

module _ (n : ℕ) (marks : List ℕ) (one : OneStarARow n marks) where
  -- a row's star is where its mark is 1
  star_cell : (i j : ℕ) → i < n → j < n → eqb (cell 0 n marks i j) 1 ≡ eqb (star_in_row n marks i) j
  unfolding star_in_row
  star_cell i j hi hj = T_same _ _
      (λ t. eqb_yes _ j (one i j hi hj (eqb→eq _ 1 t)))
      (λ t. let e : star_in_row n marks i ≡ j = eqb→eq _ j t in rw (sym e) ((first_is (λ j. eqb (cell 0 n marks i j) 1) n).hit (omega arith)))

  module _ (columns stars k : ℕ) (g : Gathered n marks columns stars k) (h : k < n) where
    next_row : (j : ℕ) → j < n → any (λ i. eqb (cell 0 n marks i j) 1) (k + 1) ≡ (eqb (star_in_row n marks k) j || has columns j)
    next_row j hj = any_more _ k ∙ ap₂ ◌||◌ (star_cell k j h hj) (sym (g.same j hj))

    pub gathered_star : (column : ℕ) → Some column ≡ found n (star_in_row n marks k) → Gathered n marks (with columns column) (stars + 1) (k + 1)
    gathered_star column e =
        let star = some_found n _ column (sym e) in
        record {
          low = with_lt n columns column g.low star.1;
          same = λ j hj. has_with columns column j ∙ rw star.0 at (sym (next_row j hj));
          counted = ap (λ x. x + 1) g.counted ∙ sym (count_yes _ k (lt-ltb _ n (omega (arith, star.0, star.1))));
        }

    pub gathered_skip : None ≡ found n (star_in_row n marks k) → Gathered n marks columns stars (k + 1)
    gathered_skip e =
        let none = none_found n _ (sym e) in
        record {
          low = g.low;
          same = λ j hj. sym (next_row j hj ∙ rw (ne_eqb (star_in_row n marks k) j (omega arith)));
          counted = g.counted ∙ sym (count_no _ k (le-ltb _ n none));
        }

-- all rows: step 3's columns, and its next step
module _ (n : ℕ) (marks : List ℕ) (columns stars k : ℕ) (g : Gathered n marks columns stars k) (e : k ≡ n) (r : Run) where
  gathered_columns : columns ≡ star_columns n marks
  unfolding star_columns star_in_column any
  gathered_columns =
      let f : (j : ℕ) → j < n → has columns j ≡ ltb (star_in_column n marks j) n = rw e at g.same in
      ext n columns _ g.low (those_lt _ n) (λ j h. f j h ∙ sym (has_those _ n j h))

  pub gathered_all : run_with r.rows columns r.adjustments r.primes r.augmentations (cond (eqb stars n) Paired Step4) ≡ step3 n marks r
  unfolding step3 star_count
  gathered_all =
      ap₂ (λ x y. run_with r.rows x r.adjustments r.primes r.augmentations (cond (eqb y n) Paired Step4)) gathered_columns
      (g.counted ∙ ap (count _) e)
