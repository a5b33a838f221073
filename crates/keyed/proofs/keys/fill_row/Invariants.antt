-- `keys::fill_row` puts the row's entries into their columns (`FillingRow`), and keeps the lowest so far (`Lowest`).
use Rattle.lines.proofs.Bounds.{RowFits}
use Rattle.steps.specs.Lent.{allows, cost_at}
use Rattle.keyed.specs.Keys.{entry}
use Rattle.keyed.specs.Filled.{Lowest}
use Rattle.keyed.proofs.Fills.{FillingRow}
use Rattle.keyed.proofs.keys.fill_row.Given as goal

abbrev pub invariant-loop-column : goal.invariant-loop-column
invariant-loop-column l =
    RowFits l.n l.row × FillingRow l.n (allows l.n l.mask) (cost_at l.n l.costs) l.row l.initial.keys l.keys l.column
    × Lowest (λ j. entry 64 (allows l.n l.mask) (cost_at l.n l.costs) j l.row) l.cheapest l.least l.column
