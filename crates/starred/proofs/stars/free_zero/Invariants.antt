-- `stars::free_zero` looks from column to column (`Missed`).
use mathlib.Core.Bool.{not, ◌&&◌}
use lib.IntN.{◌-ℤ◌}
use Rattle.lines.specs.Sets.{has}
use Rattle.lines.proofs.Loops.{Missed}
use Rattle.steps.specs.Lent.{allows, cost_at}
use Rattle.steps.specs.Steps.{is_zero}
use Rattle.starred.proofs.stars.free_zero.Given as goal

abbrev pub invariant-loop-column : goal.invariant-loop-column
invariant-loop-column l =
    let m = l.matrix in
    Missed (λ j. (allows m.n m.mask.now l.row j && is_zero (cost_at m.n m.costs.now l.row j -ℤ l.price)) && not (has l.taken j)) l.column
