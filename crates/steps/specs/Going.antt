-- What holds between two steps of a run, wherever it began. Kept apart: *shape*, *search* (what marks and covers mean, by what is next) and *priced*.
use Rattle.std.specs.Prelude.{◌≡◌, ◌≢◌, Bool, not, List, ℕ, zero, suc, ◌*◌, ◌≤◌, ◌<◌, T, ltb, ℤ, pos, ◌+ℤ◌, ◌≤ℤ◌, length, get_or}
use Rattle.std.proofs.Math.Logic.{ite}
use Rattle.std.proofs.Math.Decide.{ℕ_discrete}
use Rattle.lines.specs.Count.{count}
use Rattle.lines.specs.Square.{cell}
use Rattle.lines.specs.Sets.{has}
use Rattle.lines.specs.Put.{put}
use Rattle.steps.specs.Steps.{Next, Step3, Step4, Step5, Step6, Paired, NoPairing, Unfinished, Machine, star_in_column, prime_in_row, star_count}

-- ---- shape: every list keeps its length

pub record Shape (n : ℕ) (m : Machine) : Type 0 where
  pub working : length m.working ≡ n * n
  pub marks : length m.marks ≡ n * n
  pub row_prices : length m.row_prices ≡ n
  pub column_prices : length m.column_prices ≡ n

-- ---- stars and primes as functions: `star i` is the column of row i's star, `row j` the row of column j's star, `prime i` the column of row i's prime; a
-- number not below n says that there is none

-- At most one star in each row and each column, row r set apart: it may have a `star`, but no column has it as its `row`. An r that is not below n sets no row
-- apart, and then these are the stars of a plain partial matching.
pub record Apart (n : ℕ) (star row : ℕ → ℕ) (r : ℕ) : Type 0 where
  pub there : (i : ℕ) → i < n → i ≢ r → star i < n → row (star i) ≡ i
  pub back : (j : ℕ) → j < n → row j < n → (row j ≢ r) × (star (row j) ≡ j)

abbrev pub Matching : ℕ → (ℕ → ℕ) → (ℕ → ℕ) → Type 0
Matching n star row = Apart n star row n

-- which rows have a star
abbrev pub has_star : ℕ → (ℕ → ℕ) → ℕ → Bool
has_star n star i = ltb (star i) n

-- 1 at a row's star, 2 at its prime, 0 elsewhere
unfoldable pub mark : (ℕ → ℕ) → (ℕ → ℕ) → ℕ → ℕ → ℕ
mark star prime i j = ite (ℕ_discrete (star i) j) 1 (ite (ℕ_discrete (prime i) j) 2 0)

-- the marks show the stars and the primes
pub record Shows (n : ℕ) (star prime : ℕ → ℕ) (marks : List ℕ) : Type 0 where
  pub size : length marks ≡ n * n
  pub marked : (a b : ℕ) → b < n → cell 0 n marks a b ≡ mark star prime a b

-- ---- cells

-- an allowed cell in an uncovered row and column
pub record Open (ok : ℕ → ℕ → Bool) (rows columns i j : ℕ) : Type 0 where
  pub row : T (not (has rows i))
  pub column : T (not (has columns j))
  pub allowed : T (ok i j)

module _ (n : ℕ) (ok : ℕ → ℕ → Bool) where
  -- one with working value 0
  pub record OpenZero (working : List ℤ) (rows columns i j : ℕ) : Type 0 where
    pub row_below : i < n
    pub column_below : j < n
    pub is_open : Open ok rows columns i j
    pub zero : cell (pos 0) n working i j ≡ pos 0

  abbrev pub NoZero : List ℤ → ℕ → ℕ → Type 0
  NoZero working rows columns = (i j : ℕ) → i < n → j < n → Open ok rows columns i j → cell (pos 0) n working i j ≢ pos 0

  abbrev pub NoOpen : ℕ → ℕ → Type 0
  NoOpen rows columns = (i j : ℕ) → i < n → j < n → Open ok rows columns i j → ⊥

-- ---- search

-- `Zero i j`: an allowed cell with working value 0. Row i is covered where `r i`, column j where `c j`. `time i` is the number of rows that were covered when
-- row i's prime was made.
pub record Phase (n : ℕ) (Zero : ℕ → ℕ → Type 0) (star row prime time : ℕ → ℕ) (r c : ℕ → Bool) : Type 0 where
  pub matching : Matching n star row
  pub stars : (i : ℕ) → i < n → star i < n → Zero i (star i)
  pub primes : (i : ℕ) → i < n → prime i < n → Zero i (prime i)
  -- the covered rows are those with a prime, and they have a star
  pub covered : (i : ℕ) → i < n → T (r i) → (star i < n) × (prime i < n)
  pub primed : (i : ℕ) → i < n → prime i < n → T (r i)
  -- the covered columns are those whose star is in an uncovered row
  pub crossed : (j : ℕ) → j < n → T (c j) → (row j < n) × T (not (r (row j)))
  pub crosses : (j : ℕ) → j < n → row j < n → T (not (r (row j))) → T (c j)
  -- the star in a prime's column is in a row that was primed earlier
  pub chain : (i : ℕ) → i < n → prime i < n → row (prime i) < n → (prime (row (prime i)) < n) × (time (row (prime i)) < time i)
  pub times : (i : ℕ) → i < n → prime i < n → time i < count r n

module _ (n : ℕ) (ok : ℕ → ℕ → Bool) where
  -- an allowed cell with working value 0
  abbrev pub Zero : List ℤ → ℕ → ℕ → Type 0
  Zero working i j = T (ok i j) × (cell (pos 0) n working i j ≡ pos 0)

  -- at step 3, and when all is paired: the marks are stars, on zeros, one at most in each row and column
  pub record Starred (working : List ℤ) (marks : List ℕ) : Type 0 where
    pub star : ℕ → ℕ
    pub row : ℕ → ℕ
    pub shows : Shows n star (λ i. n) marks
    pub matching : Matching n star row
    pub zeros : (i : ℕ) → i < n → star i < n → Zero working i (star i)

  -- at steps 4 and 6: the phase, while a star is missing
  pub record Search (working : List ℤ) (marks : List ℕ) (rows columns : ℕ) : Type 0 where
    pub star : ℕ → ℕ
    pub row : ℕ → ℕ
    pub prime : ℕ → ℕ
    pub time : ℕ → ℕ
    pub shows : Shows n star prime marks
    pub phase : Phase n (Zero working) star row prime time (has rows) (has columns)
    pub missing : count (has_star n star) n < n

  -- at step 5: the last prime is in a row i without a star
  pub record Ready (working : List ℤ) (marks : List ℕ) (rows columns i j : ℕ) : Type 0 where
    pub star : ℕ → ℕ
    pub row : ℕ → ℕ
    pub prime : ℕ → ℕ
    pub time : ℕ → ℕ
    pub shows : Shows n star (put prime i j) marks
    pub phase : Phase n (Zero working) star row prime time (has rows) (has columns)
    pub missing : count (has_star n star) n < n
    pub last : OpenZero n ok working rows columns i j
    pub bare : n ≤ star i

  -- by what is next
  abbrev pub Sound_at : Next → Machine → Type 0
  Sound_at Step3 m = Starred m.working m.marks × (m.run.rows ≡ 0)
  Sound_at Step4 m = Search m.working m.marks m.run.rows m.run.columns
  Sound_at (Step5 i j) m = Ready m.working m.marks m.run.rows m.run.columns i j
  Sound_at Step6 m = Search m.working m.marks m.run.rows m.run.columns × NoZero n ok m.working m.run.rows m.run.columns
  Sound_at Paired m = Starred m.working m.marks × (star_count n m.marks ≡ n)
  Sound_at NoPairing m = Search m.working m.marks m.run.rows m.run.columns × NoOpen n ok m.run.rows m.run.columns
  Sound_at Unfinished m = Search m.working m.marks m.run.rows m.run.columns × NoZero n ok m.working m.run.rows m.run.columns

  pub record Sound (m : Machine) : Type 0 where
    pub at_next : Sound_at m.run.next m

-- ---- step 5's path, by what the searches find

module _ (n : ℕ) (marks : List ℕ) where
  -- the path from (i, j) stays in the square, and ends within k rows
  abbrev pub Ends : ℕ → ℕ → ℕ → Type 0
  Ends zero i j = ⊥
  Ends (suc k) i j =
      (i < n) × (j < n) × (star_in_column n marks j < n → Ends k (star_in_column n marks j) (prime_in_row n marks (star_in_column n marks j)))

-- ---- priced: at every allowed cell the cost is row price and column price and working value, and no working value is negative

pub record Priced (n : ℕ) (ok : ℕ → ℕ → Bool) (cost : ℕ → ℕ → ℤ) (m : Machine) : Type 0 where
  pub equation : (i j : ℕ) → i < n → j < n → T (ok i j)
      → cost i j ≡ get_or m.row_prices i (pos 0) +ℤ get_or m.column_prices j (pos 0) +ℤ cell (pos 0) n m.working i j
  pub whole : (i j : ℕ) → i < n → j < n → T (ok i j) → pos 0 ≤ℤ cell (pos 0) n m.working i j
  pub none : (i j : ℕ) → i < n → j < n → T (not (ok i j)) → cell (pos 0) n m.working i j ≡ pos 0

-- ---- all three

pub record Going (n : ℕ) (ok : ℕ → ℕ → Bool) (cost : ℕ → ℕ → ℤ) (m : Machine) : Type 0 where
  pub shape : Shape n m
  pub sound : Sound n ok m
  pub priced : Priced n ok cost m
