-- What a loop over the columns of one row ends with, and what a loop over the rows of a square does.
use mathlib.Core.Path.{◌≡◌, refl, sym, ap, ◌∙◌}
use mathlib.Core.Logic.{◌≢◌, dite}
use mathlib.Core.Bool.{Bool, cond}
use mathlib.Core.List.{List}
use Prim.Native.Nat.{ℕ, ◌+◌, ◌-◌, ◌*◌, ◌/◌, ◌%◌, ◌≤◌, ◌<◌}
use native.Mathlib.Nat.{mod-lt, mul-le-mul_right, div-eq_of_lt-le, add_assoc, zero-mul}
use native.Mathlib.Decide.{dec_lt}
use native.Mathlib.Omega.{arith}
use lib.Dec.{eqb}
use lib.ListN.{length, get_or, set}
use lib.Seq.{ext_get_or}
use Rattle.std.specs.Prelude.{drop, position, slice_range}
use Rattle.std.proofs.lemmas.List.{length-take, length-drop, get_or-take, get_or-drop}
use Rattle.lines.specs.First.{first, found}
use Rattle.lines.specs.Square.{cell, square, each, each_row}
use Rattle.lines.proofs.Bounds.{row_end}
use Rattle.lines.proofs.Firsts.{first_ext, position_found}
use Rattle.lines.proofs.Tests.{T_true, T_false, eqb_yes, eqb_no}
use Rattle.lines.proofs.Squares.{place_of, place_back, length_each, each_at, each_cell}
use Rattle.lines.proofs.Loops.{Passed, passed_none, passed_store, passed_keep, passed_all, filled_all}

-- the places of row i
pub row_places : (n i q : ℕ) → 0 < n → q / n ≡ i → (i * n ≤ q) × (q < i * n + n)
row_places n i q h e = let p : i * n + q % n ≡ q = rw e at (place_back n q) in (omega arith, omega (arith, mod-lt q h))

-- ---- one row as a list

module _ {A : Type 0} (d : A) (xs : List A) (n i : ℕ) (size : length xs ≡ n * n) (h : i < n) where
  pub row_length : length (slice_range xs (i * n) (i * n + n)) ≡ n
  row_length = omega (arith, length-take (i * n + n - i * n) (drop (i * n) xs), length-drop (i * n) xs, row_end n i h)

  pub row_cell : (j : ℕ) → j < n → get_or (slice_range xs (i * n) (i * n + n)) j d ≡ cell d n xs i j
  row_cell j l = get_or-take _ (drop (i * n) xs) j d (omega arith) ∙ get_or-drop (i * n) xs j d

  -- the code's search along it
  pub row_found : (p : A → Bool) → position p (slice_range xs (i * n) (i * n + n)) ≡ found n (first (λ j. p (cell d n xs i j)) n)
  row_found p = position_found p _ d n row_length ∙ ap (found n) (first_ext _ _ n (λ j l. ap p (row_cell j l)))

-- ---- one row, a column a turn

-- what becomes of the element at a place
abbrev in_row : {A : Type 0} → ℕ → ℕ → (ℕ → A → A) → ℕ → A → A
in_row n i f q x = cond (eqb (q / n) i) (f (q % n) x) x

-- after j columns of row i
pub record RowPassed {A : Type 0} (d : A) (n i : ℕ) (f : ℕ → A → A) (xs₀ xs : List A) (j : ℕ) : Type 0 where
  pub row : Passed d (in_row n i f) xs₀ xs (i * n + j)

module _ {A : Type 0} (d : A) (n i : ℕ) (f : ℕ → A → A) where
  row_yes : (q : ℕ) (x : A) → q / n ≡ i → in_row n i f q x ≡ f (q % n) x
  row_yes q x e = ap (λ (b : Bool). cond b (f (q % n) x) x) (T_true (eqb (q / n) i) (eqb_yes (q / n) i e))

  row_no : (q : ℕ) (x : A) → q / n ≢ i → in_row n i f q x ≡ x
  row_no q x ne = ap (λ (b : Bool). cond b (f (q % n) x) x) (T_false (eqb (q / n) i) (eqb_no (q / n) i ne))

  row_here : (j : ℕ) (x : A) → j < n → in_row n i f (i * n + j) x ≡ f j x
  row_here j x h = let p = place_of n i j h in row_yes (i * n + j) x p.0 ∙ ap (λ (k : ℕ). f k x) p.1

  row_in : (xs : List A) (q : ℕ) → q < length xs → q / n ≡ i → get_or (each_row n i f xs) q d ≡ f (q % n) (get_or xs q d)
  unfolding each_row
  row_in xs q h e = each_at d (in_row n i f) xs q h ∙ row_yes q _ e

  row_out : (xs : List A) (q : ℕ) → q / n ≢ i → get_or (each_row n i f xs) q d ≡ get_or xs q d
  unfolding each_row
  row_out xs q ne = each_cell d (in_row n i f) xs q (row_no q d ne) ∙ row_no q _ ne

  module _ (xs₀ : List A) where
    pub row_none : i < n → RowPassed d n i f xs₀ xs₀ 0
    row_none below = record {
      row = record {
        long = refl;
        done = λ k h. sym (row_no k _ (λ e. omega (arith, row_places n i k (omega arith) e)));
        left = λ k h. refl;
      };
    }

    -- the element that is next is as it was
    pub row_next : (xs : List A) (j : ℕ) → RowPassed d n i f xs₀ xs j → get_or xs (i * n + j) d ≡ get_or xs₀ (i * n + j) d
    row_next xs j p = p.row.left (i * n + j) (omega arith)

    next_here : (xs : List A) (j : ℕ) → j < n → RowPassed d n i f xs₀ xs j → f j (get_or xs (i * n + j) d) ≡ in_row n i f (i * n + j) (get_or xs₀ (i * n + j) d)
    next_here xs j h p = ap (f j) (row_next xs j p) ∙ sym (row_here j _ h)

    -- the turn stores what becomes of the element that is next, or that is right as it stands
    pub row_store : (xs : List A) (j : ℕ) (v : A) → j < n → i * n + j < length xs → v ≡ f j (get_or xs (i * n + j) d) → RowPassed d n i f xs₀ xs j
        → RowPassed d n i f xs₀ (set xs (i * n + j) v) (j + 1)
    row_store xs j v h l e p = record {
      row = rw add_assoc at (passed_store d (in_row n i f) xs₀ xs (i * n + j) v l (e ∙ next_here xs j h p) p.row);
    }

    pub row_keep : (xs : List A) (j : ℕ) → j < n → f j (get_or xs (i * n + j) d) ≡ get_or xs (i * n + j) d → RowPassed d n i f xs₀ xs j
        → RowPassed d n i f xs₀ xs (j + 1)
    row_keep xs j h e p = record { row = rw add_assoc at (passed_keep d (in_row n i f) xs₀ xs (i * n + j) (sym e ∙ next_here xs j h p) p.row) }

    pub row_all : (xs : List A) (j : ℕ) → i < n → n ≤ j → RowPassed d n i f xs₀ xs j → xs ≡ each_row n i f xs₀
    unfolding each_row
    row_all xs j below h p =
        ext_get_or d xs (each (in_row n i f) xs₀) (p.row.long ∙ sym (length_each (in_row n i f) xs₀)) (λ k l.
        let q = p.row.long in
        dite (dec_lt k (i * n + j))
        (λ m. p.row.done k m)
        (λ m. p.row.left k (omega arith) ∙ sym (row_no k _ (λ e. omega (arith, row_places n i k (omega arith) e))))
        ∙ sym (each_at d (in_row n i f) xs₀ k (omega arith)))

-- ---- all rows, a row a turn

-- after i rows
pub record RowsPassed {A : Type 0} (d : A) (n : ℕ) (F : ℕ → ℕ → A → A) (xs₀ xs : List A) (i : ℕ) : Type 0 where
  pub rows : Passed d (λ q x. F (q / n) (q % n) x) xs₀ xs (i * n)

module _ {A : Type 0} (d : A) (n : ℕ) (F : ℕ → ℕ → A → A) (xs₀ : List A) where
  pub rows_none : RowsPassed d n F xs₀ xs₀ 0
  rows_none = record { rows = rw zero-mul (passed_none d (λ q x. F (q / n) (q % n) x) xs₀) }

  pub rows_more : (xs ys : List A) (i : ℕ) (f : ℕ → A → A) → length xs₀ ≡ n * n → i < n → ((j : ℕ) (x : A) → f j x ≡ F i j x) → ys ≡ each_row n i f xs
      → RowsPassed d n F xs₀ xs i → RowsPassed d n F xs₀ ys (i + 1)
  unfolding each_row
  rows_more xs ys i f size h same e g = record {
    rows = record {
      long = ap length e ∙ length_each (in_row n i f) xs ∙ p.long;
      done = λ k l. dite (dec_lt k (i * n))
          (λ m. kept k (λ q. omega (arith, row_places n i k (omega arith) q)) ∙ p.done k m)
          (λ m. changed k (omega (arith, p.long, mul-le-mul_right n h)) (div-eq_of_lt-le n (omega arith) l) (omega arith));
      left = λ k l. kept k (λ q. omega (arith, row_places n i k (omega arith) q)) ∙ p.left k (omega arith);
    };
  }
    where
      G : ℕ → A → A
      G q x = F (q / n) (q % n) x

      p : Passed d G xs₀ xs (i * n)
      p = g.rows

      kept : (k : ℕ) → k / n ≢ i → get_or ys k d ≡ get_or xs k d
      kept k ne = ap (λ l. get_or l k d) e ∙ row_out d n i f xs k ne

      changed : (k : ℕ) → k < length xs → k / n ≡ i → i * n ≤ k → get_or ys k d ≡ G k (get_or xs₀ k d)
      changed k l q m =
          ap (λ l. get_or l k d) e ∙ row_in d n i f xs k l q ∙ same (k % n) (get_or xs k d)
          ∙ ap (λ a. F a (k % n) (get_or xs k d)) (sym q) ∙ ap (G k) (p.left k m)

  -- the elements of the row that is next are as they were
  pub rows_next : (xs : List A) (i j : ℕ) → RowsPassed d n F xs₀ xs i → get_or xs (i * n + j) d ≡ get_or xs₀ (i * n + j) d
  rows_next xs i j p = p.rows.left (i * n + j) (omega arith)

  pub rows_all : (xs : List A) (i : ℕ) → length xs₀ ≡ n * n → n ≤ i → RowsPassed d n F xs₀ xs i → xs ≡ each (λ q x. F (q / n) (q % n) x) xs₀
  rows_all xs i size h p = passed_all d (λ q x. F (q / n) (q % n) x) xs₀ xs (i * n) (omega (arith, p.rows.long, mul-le-mul_right n h)) p.rows

-- the same where what stood there does not matter
pub rows_filled : {A : Type 0} (d : A) (n : ℕ) (g : ℕ → ℕ → A) (xs₀ xs : List A) (i : ℕ) → length xs₀ ≡ n * n → n ≤ i
    → RowsPassed d n (λ k j x. g k j) xs₀ xs i → xs ≡ square g n
unfolding square
rows_filled d n g xs₀ xs i size h p =
    filled_all d (λ q. g (q / n) (q % n)) xs₀ xs (n * n) (i * n) (p.rows.long ∙ size) (mul-le-mul_right n h) p.rows
