-- `Opened::open_columns` gives row after row the key that it has in its cheapest column (`Chosen`).
use Rattle.keyed.proofs.Cheapests.{Chosen}
use Rattle.keyed.proofs.opening.Opened.open_columns.Given as goal

abbrev pub invariant-loop-row : goal.invariant-loop-row
invariant-loop-row l =
    let p = l.priced in
    Chosen p.n l.columns p.keys.now p.row_prices.now p.column_prices.now l.initial.self.cheapest l.self.cheapest l.initial.self.key l.self.key l.best l.row
