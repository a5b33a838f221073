-- `put_price` meets its contract, piece after piece.
use mir.Facts.{to_z-of_z}
use Rattle.text.proofs.PutLaws.{◌▸◌}
use Rattle.entries.specs.Lines.{price_line}
use Rattle.entries.proofs.row.put_price.Goals as goal

pub returns : goal.returns
unfolding price_line
returns c =
    rw (to_z-of_z c.ranges.price)
    at (c.put_right.ensures ▸ c.put_right-2.ensures ▸ c.put.ensures)
