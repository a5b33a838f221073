-- What is lent to a call, and how its cells are read.
use Rattle.std.specs.Prelude.{Bool, List, ℕ, eqb, ℤ, pos}
use Rattle.lines.specs.Square.{cell}

-- what a call reads
pub record Task : Type 0 where
  pub n : ℕ
  pub costs : List ℤ
  pub mask : List ℕ
  pub budget : ℕ

abbrev pub task : ℕ → List ℤ → List ℕ → ℕ → Task
task n costs mask budget = record { n = n; costs = costs; mask = mask; budget = budget }

-- what a call may write
pub record Buffers : Type 0 where
  pub working : List ℤ
  pub marks : List ℕ
  pub columns : List ℕ
  pub row_prices : List ℤ
  pub column_prices : List ℤ

abbrev pub buffers : List ℤ → List ℕ → List ℕ → List ℤ → List ℤ → Buffers
buffers working marks columns row_prices column_prices =
    record { working = working; marks = marks; columns = columns; row_prices = row_prices; column_prices = column_prices }

-- an allowed cost is at most this far from 0
abbrev pub most_cost : ℕ
most_cost = 1_000_000_000

-- cells of rows of n; past the end of what is lent, a cell is allowed and costs 0
unfoldable pub allows : ℕ → List ℕ → ℕ → ℕ → Bool
allows n mask i j = eqb (cell 1 n mask i j) 1

unfoldable pub cost_at : ℕ → List ℤ → ℕ → ℕ → ℤ
cost_at n costs i j = cell (pos 0) n costs i j

abbrev pub allowed : Task → ℕ → ℕ → Bool
allowed t = allows t.n t.mask

abbrev pub cost : Task → ℕ → ℕ → ℤ
cost t = cost_at t.n t.costs
