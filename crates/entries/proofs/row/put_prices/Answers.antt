-- `put_prices` meets its contract, piece after piece.
use borrow.Author.Rules.{rules}
use mir.Facts.{to_z-of_z}
use mir.Syntax.{w64}
use Rattle.text.proofs.PutLaws.{◌▸◌}
use Rattle.entries.specs.Lines.{prices}
use Rattle.entries.proofs.row.put_prices.Goals as goal

pub returns : goal.returns
unfolding prices
returns c =
    let p = c.args.prices in
    rw (to_z-of_z {w = w64} {z = p.difference} (search rules), to_z-of_z {w = w64} {z = p.row_price} (search rules), to_z-of_z {w = w64} {z = p.event_price} (search rules))
    at (c.put_right.ensures ▸ c.put.ensures ▸ c.put_right-2.ensures ▸ c.put-2.ensures ▸ c.put_right-3.ensures)
