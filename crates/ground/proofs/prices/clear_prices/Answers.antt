-- `clear_prices` leaves a list of zeros.
use Rattle.std.proofs.Common.{◌∙◌}
use Rattle.lines.proofs.Squares.{table_same}
use Rattle.ground.proofs.prices.clear_prices.Goals as goal

pub returns : goal.returns
returns c = c.fill.ensures.after (λ y q. q) ∙ table_same _ _
