-- What pairing a case gives back, told of the lines that the file writes: nothing of the reader stands between the file and the sentence.
use Rattle.std.specs.Prelude.{◌≡◌, ◌⊎◌, List, ℕ, ◌+◌, ◌≤◌, ◌<◌, T, pos}
use Rattle.lines.specs.Sum.{sum}
use Rattle.lines.specs.Count.{count}
use Rattle.lines.specs.Sets.{has}
use Rattle.assignment.specs.Problem.{column, Pairing}
use Rattle.storm_case.specs.Format.{Line, row_at, column_at, Allowed, clocks_apart}
use Rattle.pairing.specs.declared.Pairs.{Pairs}

-- the summed difference of the clocks, where list p gives the rows their columns
unfoldable pub summed : ℕ → List Line → List ℕ → ℕ
summed n lines p = sum (λ i. clocks_apart (row_at lines i) (column_at lines (column p i))) n

module _ (n window : ℕ) (lines : List Line) where
  -- each of n fragments has an event of its own: of equal area, and with a clock at most the window apart
  pub record PairsLines (p : List ℕ) : Type 0 where
    pub pairing : Pairing n n p
    pub allowed : (i : ℕ) → i < n → Allowed window (row_at lines i) (column_at lines (column p i))

  -- and no such pairing has a smaller summed difference
  pub record LeastPairing (p : List ℕ) : Type 0 where
    pub pairs : PairsLines p
    pub least : (q : List ℕ) → PairsLines q → summed n lines p ≤ summed n lines q

  -- rows and columns, more than n in all, with no allowed pair between them
  pub record ShutLines (rows columns : ℕ) : Type 0 where
    pub shut : (i j : ℕ) → i < n → j < n → T (has rows i) → T (has columns j) → Allowed window (row_at lines i) (column_at lines j) → ⊥
    pub large : n < count (has rows) n + count (has columns) n

  pub record AboutLines (p : Pairs) (columns : List ℕ) : Type 0 where
    pub size : p.n ≡ n
    pub window_is : p.window ≡ window
    pub settled : (p.number ≡ 0) ⊎ (p.number ≡ 6)
    pub paired : p.number ≡ 0 → LeastPairing columns
    pub totalled : p.number ≡ 0 → p.total ≡ pos (summed n lines columns)
    pub block : p.number ≡ 6 → ShutLines p.block_rows p.block_columns
    pub impossible : p.number ≡ 6 → (q : List ℕ) → PairsLines q → ⊥
