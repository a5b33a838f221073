-- `weight_matrix::least_in_row` meets its contract: the least of what was handed over and of the columns so far.
use mathlib.Core.Path.{◌≡◌}
use mathlib.Core.Bool.{not, ◌&&◌}
use mathlib.Core.List.{List}
use Prim.Native.Nat.{ℕ, ◌+◌, ◌*◌, ◌≤◌}
use lib.IntN.{ℤ, pos}
use lib.ListN.{get_or}
use Rattle.lines.specs.Sets.{has, rest}
use Rattle.lines.proofs.Walks.{Walk}
use Rattle.steps.specs.Lent.{allows}
use Rattle.std.specs.Prelude.{Option}
use Rattle.ground.specs.Least.{least_from}
use Rattle.matrices.proofs.weight_matrix.least_in_row.Given as goal

abbrev pub Kept : ℕ → List ℕ → List ℤ → ℕ → ℕ → Option ℤ → Option ℤ → ℕ → Type 0
Kept n mask working columns row best least i =
    least ≡ least_from best (λ j. not (has columns j) && allows n mask row j) (λ j. get_or working (row * n + j) (pos 0)) i

abbrev pub invariant-loop-column : goal.invariant-loop-column
invariant-loop-column l =
    (l.row * l.n + l.n ≤ l.n * l.n) × Walk l.n (rest l.n l.columns) (Kept l.n l.mask l.working l.columns l.row l.initial.least l.least) l.column-iterator.left
