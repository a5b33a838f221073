-- What the keys tell of the machine that is simulated.
use Rattle.std.specs.Prelude.{◌≡◌, Bool, true, not, List, ℕ, ◌<◌, T, ℤ, pos, ◌+ℤ◌, ◌≤ℤ◌}
use Rattle.std.specs.Int.Signed.{lt_z}
use Rattle.lines.specs.Square.{cell}
use Rattle.lines.specs.Sets.{has}
use Rattle.steps.specs.Going.{Open}
use Rattle.keyed.specs.Keys.{pack}

module _ (N n : ℕ) (ok : ℕ → ℕ → Bool) (limit : ℤ) where
  -- the key of a cell, with what has risen in this phase
  abbrev pub key_at : List ℤ → ℤ → ℕ → ℕ → ℤ
  key_at working risen i j = pack N (cell (pos 0) n working i j +ℤ risen) j i

  -- z is the key of an open cell in row i, or in some row
  pub record KeyIn (working : List ℤ) (rows columns : ℕ) (risen z : ℤ) (i : ℕ) : Type 0 where
    pub column : ℕ
    pub column_below : column < n
    pub is_open : Open ok rows columns i column
    pub value : z ≡ key_at working risen i column

  pub record KeyOf (working : List ℤ) (rows columns : ℕ) (risen z : ℤ) : Type 0 where
    pub row : ℕ
    pub row_below : row < n
    pub in_row : KeyIn working rows columns risen z row

  -- of each uncovered row the least key of its open cells, or none below the limit
  pub record Keys (working : List ℤ) (rows columns : ℕ) (risen : ℤ) (key : ℕ → ℤ) : Type 0 where
    pub low : (i j : ℕ) → i < n → j < n → Open ok rows columns i j → key i ≤ℤ key_at working risen i j
    pub hit : (i : ℕ) → i < n → T (not (has rows i)) → lt_z (key i) limit ≡ true → KeyIn working rows columns risen (key i) i

  -- the least key of all open cells, or none below the limit
  pub record Best (working : List ℤ) (rows columns : ℕ) (risen best : ℤ) : Type 0 where
    pub low : (i j : ℕ) → i < n → j < n → Open ok rows columns i j → best ≤ℤ key_at working risen i j
    pub hit : lt_z best limit ≡ true → KeyOf working rows columns risen best
