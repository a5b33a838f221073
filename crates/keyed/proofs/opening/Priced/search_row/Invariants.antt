-- `Priced::search_row` walks over the open columns, lowest first (`Sought`).
use Rattle.lines.specs.Sets.{rest}
use Rattle.lines.proofs.Walks.{Walk}
use Rattle.keyed.proofs.Cheapests.{Sought}
use Rattle.keyed.proofs.opening.Priced.search_row.Given as goal

abbrev pub invariant-loop-column : goal.invariant-loop-column
invariant-loop-column l =
    let p = l.self in
    Walk p.n (rest p.n l.columns) (Sought p.n l.columns p.keys.now p.row_prices.now p.column_prices.now l.row l.cheapest l.least) l.column-iterator.left
