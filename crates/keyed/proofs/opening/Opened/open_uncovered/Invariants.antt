-- `Opened::open_uncovered` opens the columns, lowest first (`Opening`).
use mathlib.Core.Path.{◌≡◌}
use Rattle.lines.specs.Sets.{rest}
use Rattle.lines.proofs.Walks.{Walk}
use Rattle.keyed.proofs.OpenColumns.{Opening}
use Rattle.keyed.proofs.opening.Opened.open_uncovered.Given as goal

abbrev pub invariant-loop-column : goal.invariant-loop-column
invariant-loop-column l =
    let p = l.priced in
    Walk p.n (rest p.n l.columns) (Opening p.n l.rows l.columns p.keys.now p.row_prices.now p.column_prices.now l.self.key l.best) l.column-iterator.left
    × (l.self.cheapest ≡ l.fn.self.cheapest)
