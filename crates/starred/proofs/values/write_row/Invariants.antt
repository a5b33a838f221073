-- `values::write_row` writes the working values of a row, column by column (`RowPassed`).
use mathlib.Core.Bool.{cond}
use Prim.Native.Nat.{◌+◌, ◌*◌, ◌≤◌}
use lib.IntN.{pos, ◌-ℤ◌}
use lib.ListN.{get_or}
use Rattle.lines.proofs.Rows.{RowPassed}
use Rattle.steps.specs.Lent.{allows, cost_at}
use Rattle.starred.proofs.values.write_row.Given as goal

abbrev pub invariant-loop-column : goal.invariant-loop-column
invariant-loop-column l =
    (l.row * l.n + l.n ≤ l.n * l.n)
    × RowPassed (pos 0) l.n l.row (λ j w. cond (allows l.n l.mask l.row j) (cost_at l.n l.costs l.row j -ℤ l.price -ℤ get_or l.column_prices j (pos 0)) (pos 0)) l.initial.working l.working l.column
