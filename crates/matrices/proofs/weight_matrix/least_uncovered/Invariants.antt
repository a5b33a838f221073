-- `weight_matrix::least_uncovered` meets its contract: the search over the places of the rows so far; a covered row adds nothing.
use mathlib.Core.Path.{◌≡◌}
use mathlib.Core.Bool.{◌&&◌}
use mathlib.Core.List.{List}
use Prim.Native.Nat.{ℕ}
use lib.IntN.{ℤ, pos}
use lib.ListN.{get_or}
use Rattle.lines.specs.Sets.{rest}
use Rattle.lines.proofs.Walks.{Walk}
use Rattle.steps.specs.Lent.{allows}
use Rattle.steps.specs.Steps.{uncovered}
use Rattle.std.specs.Prelude.{Option, None}
use Rattle.matrices.proofs.Rows.{rows_least}
use Rattle.matrices.proofs.weight_matrix.least_uncovered.Given as goal

abbrev pub Kept : ℕ → List ℕ → List ℤ → ℕ → ℕ → Option ℤ → ℕ → Type 0
Kept n mask working rows columns least i =
    least ≡ rows_least None n (λ i j. uncovered rows columns i j && allows n mask i j) (λ q. get_or working q (pos 0)) i

abbrev pub invariant-loop-row : goal.invariant-loop-row
invariant-loop-row l =
    let m = l.matrix in
    Walk m.n (rest m.n l.rows) (Kept m.n m.mask.now l.working l.rows l.columns l.least) l.row-iterator.left
