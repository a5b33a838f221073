-- Lists as lines of cells, and the place of a cell in a square: bounds, that two cells have two places, and what a store does.
use mathlib.Core.Path.{◌≡◌, refl, sym, ap, ◌∙◌}
use mathlib.Core.Logic.{dite}
use mathlib.Core.List.{List, [], ◌∷◌}
use Prim.Native.Nat.{ℕ, zero, suc, ◌+◌, ◌*◌, ◌/◌, ◌%◌, ◌≤◌, ◌<◌}
use native.Mathlib.Nat.{mod-lt, div-lt_iff_lt-mul, div-add-mod'}
use native.Mathlib.Decide.{ℕ_discrete, dec_lt}
use native.Mathlib.Omega.{arith}
use lib.Arith.{digits_lt, digits_div, digits_mod}
use lib.ListN.{length, get_or, set, get_or-eq_default}
use lib.Seq.{get_or-set_same, get_or-set_other}
use Rattle.std.specs.Prelude.{replicate}
use Rattle.lines.specs.Square.{cell, table, square, each_from, each}
use Rattle.lines.specs.Put.{put}
use Rattle.lines.proofs.Puts.{put_at, put_off, put2, put2_at, put2_off}

-- ---- places

pub place_lt : (n i j : ℕ) → i < n → j < n → i * n + j < n * n
place_lt n i j h l = digits_lt h l

-- the row and the column of a place
pub place_of : (n i j : ℕ) → j < n → ((i * n + j) / n ≡ i) × ((i * n + j) % n ≡ j)
place_of n i j h = (digits_div i h, digits_mod i h)

pub place_apart : (n i j a b : ℕ) → j < n → b < n → i * n + j ≡ a * n + b → (i ≡ a) × (j ≡ b)
place_apart n i j a b h l e =
    (sym (digits_div i h) ∙ ap (λ x. x / n) e ∙ digits_div a l, sym (digits_mod i h) ∙ ap (λ x. x % n) e ∙ digits_mod a l)

pub place_in : (n q : ℕ) → q < n * n → (q / n < n) × (q % n < n)
place_in n q h = let p : 0 < n = pos n h in ((div-lt_iff_lt-mul p).1 h, mod-lt q p)
  where
    pos : (m : ℕ) → q < m * m → 0 < m
    pos zero l = omega arith
    pos (suc m) l = omega arith

-- a place is that of its row and column
pub place_back : (n q : ℕ) → q / n * n + q % n ≡ q
place_back n q = div-add-mod' q n

-- ---- reads

-- below the length the default does not matter
pub get_or_inside : {A : Type 0} (d e : A) (xs : List A) (i : ℕ) → i < length xs → get_or xs i d ≡ get_or xs i e
get_or_inside d e [] i h = absurd (omega arith)
get_or_inside d e (x ∷ xs) zero h = refl
get_or_inside d e (x ∷ xs) (suc i) h = get_or_inside d e xs i (omega arith)

-- ---- stores

module _ {A : Type 0} (d : A) where
  -- a store to a list, as a function of the index
  pub set_put : (l : List A) (v : ℕ) (x : A) (k : ℕ) → v < length l → get_or (set l v x) k d ≡ put (λ y. get_or l y d) v x k
  set_put l v x k h =
      dite (ℕ_discrete k v)
      (λ e. rw e (get_or-set_same l v x d h ∙ sym (put_at (λ y. get_or l y d) v x v refl)))
      (λ ne. get_or-set_other l v k x d ne ∙ sym (put_off (λ y. get_or l y d) v x k ne))

  -- a store at (i, j)
  pub cell_set : (n : ℕ) (l : List A) (i j : ℕ) (x : A) (a b : ℕ) → length l ≡ n * n → i < n → j < n → b < n
      → cell d n (set l (i * n + j) x) a b ≡ put2 (cell d n l) i j x a b
  cell_set n l i j x a b size hi hj hb =
      dite (ℕ_discrete (a * n + b) (i * n + j))
      (λ e. let q = place_apart n a b i j hb hj e in
      rw e (get_or-set_same l (i * n + j) x d (omega (arith, place_lt n i j hi hj)) ∙ sym (put2_at (cell d n l) i j x a b q.0 q.1)))
      (λ ne. get_or-set_other l (i * n + j) (a * n + b) x d ne ∙ sym (put2_off (cell d n l) i j x a b (λ p q. ne (cc))))

-- ---- lists made of a function

module _ {A : Type 0} where
  pub length_table : (f : ℕ → A) (n : ℕ) → length (table f n) ≡ n
  unfolding table
  length_table f zero = refl
  length_table f (suc n) = ap suc (length_table (λ i. f (suc i)) n)

  pub table_at : (d : A) (f : ℕ → A) (n i : ℕ) → i < n → get_or (table f n) i d ≡ f i
  unfolding table
  table_at d f zero i h = absurd (omega arith)
  table_at d f (suc n) zero h = refl
  table_at d f (suc n) (suc i) h = table_at d (λ i. f (suc i)) n i (omega arith)

  -- the same element everywhere
  pub table_same : (x : A) (n : ℕ) → replicate n x ≡ table (λ i. x) n
  unfolding table
  table_same x zero = refl
  table_same x (suc n) = ap (λ l. x ∷ l) (table_same x n)

  -- functions that agree below n
  pub table_ext : (f g : ℕ → A) (n : ℕ) → ((i : ℕ) → i < n → f i ≡ g i) → table f n ≡ table g n
  unfolding table
  table_ext f g zero e = refl
  table_ext f g (suc n) e = ap (λ x. x ∷ table (λ i. f (suc i)) n) (e 0 (omega arith)) ∙ ap (λ l. g 0 ∷ l) (table_ext (λ i. f (suc i)) (λ i. g (suc i)) n (λ i h. e (suc i) (omega arith)))

  -- the same everywhere, also past the end
  pub table_all : (d : A) (n i : ℕ) → get_or (table (λ k. d) n) i d ≡ d
  unfolding table
  table_all d zero i = refl
  table_all d (suc n) zero = refl
  table_all d (suc n) (suc i) = table_all d n i

  pub length_square : (f : ℕ → ℕ → A) (n : ℕ) → length (square f n) ≡ n * n
  unfolding square
  length_square f n = length_table _ (n * n)

  pub square_at : (d : A) (f : ℕ → ℕ → A) (n i j : ℕ) → i < n → j < n → cell d n (square f n) i j ≡ f i j
  unfolding square
  square_at d f n i j hi hj =
      let q = place_of n i j hj in
      table_at d (λ q. f (q / n) (q % n)) (n * n) (i * n + j) (place_lt n i j hi hj) ∙ ap (λ x. f x ((i * n + j) % n)) q.0 ∙ ap (λ x. f i x) q.1

  pub square_all : (d : A) (n i j : ℕ) → cell d n (square (λ i j. d) n) i j ≡ d
  unfolding square
  square_all d n i j = table_all d (n * n) (i * n + j)

  pub square_ext : (f g : ℕ → ℕ → A) (n : ℕ) → ((i j : ℕ) → i < n → j < n → f i j ≡ g i j) → square f n ≡ square g n
  unfolding square
  square_ext f g n e = table_ext _ _ (n * n) (λ q h. let p = place_in n q h in e (q / n) (q % n) p.0 p.1)

  -- ---- lists rewritten element by element

  length_from : (f : ℕ → A → A) (i : ℕ) (xs : List A) → length (each_from f i xs) ≡ length xs
  unfolding each_from
  length_from f i [] = refl
  length_from f i (x ∷ xs) = ap suc (length_from f (suc i) xs)

  from_at : (d : A) (f : ℕ → A → A) (i : ℕ) (xs : List A) (k : ℕ) → k < length xs → get_or (each_from f i xs) k d ≡ f (i + k) (get_or xs k d)
  unfolding each_from
  from_at d f i [] k h = absurd (omega arith)
  from_at d f i (x ∷ xs) zero h = ap (λ (n : ℕ). f n x) (omega arith)
  from_at d f i (x ∷ xs) (suc k) h = from_at d f (suc i) xs k (omega arith) ∙ ap (λ (n : ℕ). f n (get_or xs k d)) (omega arith)

  pub length_each : (f : ℕ → A → A) (xs : List A) → length (each f xs) ≡ length xs
  unfolding each
  length_each f xs = length_from f zero xs

  pub each_at : (d : A) (f : ℕ → A → A) (xs : List A) (k : ℕ) → k < length xs → get_or (each f xs) k d ≡ f k (get_or xs k d)
  unfolding each
  each_at d f xs k h = from_at d f zero xs k h ∙ ap (λ (n : ℕ). f n (get_or xs k d)) (omega arith)

  -- past the end, where d stays d
  pub each_cell : (d : A) (f : ℕ → A → A) (xs : List A) (k : ℕ) → f k d ≡ d → get_or (each f xs) k d ≡ f k (get_or xs k d)
  each_cell d f xs k e =
      dite (dec_lt k (length xs)) (λ h. each_at d f xs k h) (λ h.
      let l : length xs ≤ k = omega arith in
      get_or-eq_default (each f xs) d (rw (length_each f xs) l) ∙ sym e ∙ ap (f k) (sym (get_or-eq_default xs d l)))
