-- `coverage::find_zero_in_column` meets its contract: each row that the walk passed is covered, or has no zero in the column.
use mathlib.Core.Bool.{not, ◌&&◌}
use mathlib.Core.List.{List}
use Prim.Native.Nat.{ℕ}
use lib.IntN.{ℤ}
use Rattle.lines.specs.Sets.{has, rest}
use Rattle.lines.proofs.Loops.{Missed}
use Rattle.lines.proofs.Walks.{Walk}
use Rattle.steps.specs.Lent.{allows}
use Rattle.steps.specs.Steps.{zero_at}
use Rattle.matrices.proofs.coverage.find_zero_in_column.Given as goal

abbrev pub Kept : ℕ → List ℕ → List ℤ → ℕ → ℕ → ℕ → Type 0
Kept n mask working rows column = Missed (λ i. not (has rows i) && zero_at n (allows n mask) working i column)

abbrev pub invariant-loop-row : goal.invariant-loop-row
invariant-loop-row l = Walk l.n (rest l.n l.rows) (Kept l.n l.mask l.working l.rows l.column) l.row-iterator.left
