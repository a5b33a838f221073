-- Columns that open, each row's cheapest one among them, and what the keys then tell.
use Rattle.std.specs.Prelude.{◌≡◌, Bool, false, not, List, ℕ, ◌+◌, ◌*◌, ◌<◌, T, ℤ, pos, ◌+ℤ◌, ◌≤ℤ◌, get_or}
use Rattle.lines.specs.Square.{cell}
use Rattle.lines.specs.Sets.{has}
use Rattle.keyed.specs.Keys.{limit, pack, less_prices}
use Rattle.keyed.specs.Best.{Keys, Best}

-- what a row has in a column that opens at this price
abbrev pub term_at : ℕ → List ℤ → List ℤ → ℕ → ℤ → ℕ → ℤ
term_at n keys row_prices column price i = less_prices 64 (get_or keys (column * n + i) (pos 0)) (get_or row_prices i (pos 0)) price

-- what a row has in a column at the price that the column has
abbrev pub own_term : ℕ → List ℤ → List ℤ → List ℤ → ℕ → ℕ → ℤ
own_term n keys row_prices column_prices j i = term_at n keys row_prices j (get_or column_prices j (pos 0)) i

-- the columns below n but those of a set open, for the rows but those of a set: what the keys then tell, of any cells whose keys the terms are
abbrev pub Opens : ℕ → ℕ → ℕ → List ℤ → List ℤ → List ℤ → List ℤ → ℤ → Type 0
Opens n rows columns keys row_prices column_prices key best =
    (ok : ℕ → ℕ → Bool) (working : List ℤ)
    → ((i j : ℕ) → i < n → j < n → T (ok i j) → own_term n keys row_prices column_prices j i ≡ pack 64 (cell (pos 0) n working i j +ℤ pos 0) j i)
    → ((i j : ℕ) → i < n → j < n → T (not (ok i j)) → limit ≤ℤ own_term n keys row_prices column_prices j i)
    → Keys 64 n ok limit working rows columns (pos 0) (λ i. get_or key i (pos 0)) × Best 64 n ok limit working rows columns (pos 0) best

-- in row i no column that is open is cheaper than column c
abbrev pub NoneCheaper : ℕ → ℕ → List ℤ → List ℤ → List ℤ → ℕ → ℕ → Type 0
NoneCheaper n columns keys row_prices column_prices i c =
    (j : ℕ) → j < n → has columns j ≡ false → own_term n keys row_prices column_prices c i ≤ℤ own_term n keys row_prices column_prices j i

pub record Cheapest (n columns : ℕ) (keys row_prices column_prices : List ℤ) (i c : ℕ) : Type 0 where
  pub below : c < n
  pub is_open : has columns c ≡ false
  pub none_cheaper : NoneCheaper n columns keys row_prices column_prices i c

-- of each row a column: where it is one, and still open, none is cheaper. All free columns move together, so this stays till the column gets its star
abbrev pub Known : ℕ → ℕ → List ℤ → List ℤ → List ℤ → List ℕ → Type 0
Known n columns keys row_prices column_prices cheapest =
    (i : ℕ) → i < n → get_or cheapest i 0 < n → has columns (get_or cheapest i 0) ≡ false → NoneCheaper n columns keys row_prices column_prices i (get_or cheapest i 0)
