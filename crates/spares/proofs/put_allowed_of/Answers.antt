-- `put_allowed_of` meets its contract: the numbers are those of the lists.
use native.Mathlib.Omega.{arith}
use mir.Syntax.{w64}
use Rattle.lines.proofs.Wide.{back}
use Rattle.spares.specs.Spares.{allowed_of}
use Rattle.spares.proofs.put_allowed_of.Goals as goal

pub returns : goal.returns
unfolding allowed_of
returns c =
    let p = c.prices-prices.ensures in
    rw (p.difference, p.row_price, p.event_price, back w64 c.spare.result (omega arith), c.spare.ensures) at c.put_allowed.ensures
