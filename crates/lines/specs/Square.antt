-- Lists as lines of cells, and the cells of a square that is stored row by row.
use Rattle.std.specs.Prelude.{ℕ, zero, suc, ◌+◌, ◌*◌, ◌/◌, ◌%◌, cond, List, [], ◌∷◌, eqb, get_or}

module _ {A : Type 0} where
  -- cell (i, j) of rows of n cells; past the end, d
  abbrev pub cell : A → ℕ → List A → ℕ → ℕ → A
  cell d n xs i j = get_or xs (i * n + j) d

  -- the list f 0, .., f (n - 1)
  unfoldable pub table : (ℕ → A) → ℕ → List A
  table f zero = []
  table f (suc n) = f 0 ∷ table (λ i. f (suc i)) n

  -- the square whose cell (i, j) is f i j
  unfoldable pub square : (ℕ → ℕ → A) → ℕ → List A
  square f n = table (λ q. f (q / n) (q % n)) (n * n)

  unfoldable pub each_from : (ℕ → A → A) → ℕ → List A → List A
  each_from f i [] = []
  each_from f i (x ∷ xs) = f i x ∷ each_from f (suc i) xs

  -- the list whose element i is f i of what stood there
  unfoldable pub each : (ℕ → A → A) → List A → List A
  each f xs = each_from f zero xs

  -- the same for the cells of row i alone
  unfoldable pub each_row : ℕ → ℕ → (ℕ → A → A) → List A → List A
  each_row n i f xs = each (λ q x. cond (eqb (q / n) i) (f (q % n) x) x) xs
