-- The path as the code records it, in two lists, of the rows and of the columns of its places; and what its search and its flips ask.
use Rattle.std.specs.Prelude.{List, [], ◌∷◌, ◌++◌, ℕ, zero, suc, ◌≤◌, ◌<◌, length, get_or}
use Rattle.steps.specs.Going.{Ends}
use Rattle.ground.specs.Square.{Square}

-- the first k places
unfoldable pub zipped : List ℕ → List ℕ → ℕ → List (ℕ × ℕ)
zipped rows columns zero = []
zipped rows columns (suc k) = zipped rows columns k ++ ((get_or rows k 0, get_or columns k 0) ∷ [])

-- the search of a path that ends, of at most 127 places
pub record Walks (n : ℕ) (marks : List ℕ) (row column : ℕ) : Type 0 where
  pub most : n ≤ 64
  pub marks_square : Square n marks
  pub ends : Ends n marks n row column

-- places that are all in the square
pub record Flips (n : ℕ) (marks : List ℕ) (places : List (ℕ × ℕ)) : Type 0 where
  pub marks_square : Square n marks
  pub inside : (x : ℕ) → x < length places → ((get_or places x (0, 0)).0 < n) × ((get_or places x (0, 0)).1 < n)
