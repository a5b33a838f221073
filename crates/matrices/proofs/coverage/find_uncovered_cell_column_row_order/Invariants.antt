-- `coverage::find_uncovered_cell_column_row_order` meets its contract: each column that the walk passed is covered, or has no uncovered zero.
use mathlib.Core.List.{List}
use Prim.Native.Nat.{ℕ}
use lib.Dec.{ltb}
use lib.IntN.{ℤ}
use Rattle.lines.specs.Sets.{rest}
use Rattle.lines.proofs.Loops.{Missed}
use Rattle.lines.proofs.Walks.{Walk}
use Rattle.steps.specs.Lent.{allows}
use Rattle.steps.specs.Steps.{zero_in_column}
use Rattle.matrices.proofs.coverage.find_uncovered_cell_column_row_order.Given as goal

abbrev pub Kept : ℕ → List ℕ → List ℤ → ℕ → ℕ → ℕ → Type 0
Kept n mask working rows columns = Missed (λ j. ltb (zero_in_column n (allows n mask) working rows columns j) n)

abbrev pub invariant-loop-column : goal.invariant-loop-column
invariant-loop-column l =
    let m = l.matrix in
    Walk m.n (rest m.n l.columns) (Kept m.n m.mask.now l.working l.rows l.columns) l.column-iterator.left
