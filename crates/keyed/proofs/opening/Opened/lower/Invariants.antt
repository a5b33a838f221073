-- `Opened::lower` meets its contract: the uncovered rows so far are lowered, and the least of them is kept (`Lowered`).
use mathlib.Core.Path.{◌≡◌}
use Rattle.lines.specs.Sets.{rest}
use Rattle.lines.proofs.Walks.{Walk}
use Rattle.lines.proofs.Bounds.{RowFits}
use Rattle.keyed.specs.Opening.{term_at}
use Rattle.keyed.proofs.Lowers.{Lowered}
use Rattle.keyed.proofs.opening.Opened.lower.Given as goal

abbrev pub invariant-loop-row : goal.invariant-loop-row
invariant-loop-row l =
    let p = l.priced in
    RowFits p.n l.column × Walk p.n (rest p.n l.rows) (Lowered l.rows (term_at p.n p.keys.now p.row_prices.now l.column l.price) l.initial.self.key l.self.key l.best) l.row-iterator.left
    × (l.self.cheapest ≡ l.initial.self.cheapest)
