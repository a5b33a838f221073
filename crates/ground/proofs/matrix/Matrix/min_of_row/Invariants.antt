-- `Matrix::min_of_row` meets its contract: the least allowed cost of the columns so far.
use mathlib.Core.Path.{◌≡◌}
use Rattle.std.specs.Prelude.{Some, None}
use Rattle.lines.specs.Bounds.{Within}
use Rattle.steps.specs.Lent.{allows, cost_at}
use Rattle.ground.specs.Least.{least_from}
use lib.IntN.{ℤ}
use Rattle.ground.proofs.matrix.Matrix.min_of_row.Given as goal

abbrev pub invariant-loop-column : goal.invariant-loop-column
invariant-loop-column l = (l.least ≡ least_from None (allows l.n l.mask l.row) (cost_at l.n l.costs l.row) l.column)
    × ((z : ℤ) → l.least ≡ Some z → Within 2147483648 z)
