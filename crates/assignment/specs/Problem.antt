-- The assignment problem by its definition: f rows are paired with n columns, each row with a column of its own, at least total cost.
use Rattle.std.specs.Prelude.{◌≡◌, Bool, List, ℕ, ◌+◌, ◌<◌, T, ℤ, ◌≤ℤ◌, length, get_or}
use Rattle.lines.specs.Sum.{sumℤ}
use Rattle.lines.specs.Count.{count}

-- the column that the list p gives to row i
abbrev pub column : List ℕ → ℕ → ℕ
column p i = get_or p i 0

-- p pairs f rows with n columns: a column for each row, below n, and no column twice
pub record Pairing (f n : ℕ) (p : List ℕ) : Type 0 where
  pub size : length p ≡ f
  pub below : (i : ℕ) → i < f → column p i < n
  pub apart : (i j : ℕ) → i < f → j < f → column p i ≡ column p j → i ≡ j

-- a pairing that uses only allowed cells: those that are ok
pub record AllowedPairing (f n : ℕ) (ok : ℕ → ℕ → Bool) (p : List ℕ) : Type 0 where
  pub pairing : Pairing f n p
  pub allowed : (i : ℕ) → i < f → T (ok i (column p i))

unfoldable pub total : (ℕ → ℕ → ℤ) → ℕ → List ℕ → ℤ
total cost f p = sumℤ (λ i. cost i (column p i)) f

-- no allowed pairing has a smaller total than z
abbrev pub NoneBelow : ℕ → ℕ → (ℕ → ℕ → Bool) → (ℕ → ℕ → ℤ) → ℤ → Type 0
NoneBelow f n ok cost z = (q : List ℕ) → AllowedPairing f n ok q → z ≤ℤ total cost f q

-- there is no allowed pairing at all
abbrev pub Impossible : ℕ → ℕ → (ℕ → ℕ → Bool) → Type 0
Impossible f n ok = (q : List ℕ) → AllowedPairing f n ok q → ⊥

-- rows and columns, more than n in all, with no allowed cell between them
pub record Block (f n : ℕ) (ok : ℕ → ℕ → Bool) (rows columns : ℕ → Bool) : Type 0 where
  pub shut : (i j : ℕ) → i < f → j < n → T (rows i) → T (columns j) → T (ok i j) → ⊥
  pub large : n < count rows f + count columns n
