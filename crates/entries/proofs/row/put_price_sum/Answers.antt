-- `put_price_sum` meets its contract, piece after piece.
use mir.Facts.{to_z-of_z}
use Rattle.text.proofs.PutLaws.{◌▸◌}
use Rattle.entries.specs.Lines.{price_sum_line}
use Rattle.entries.proofs.row.put_price_sum.Goals as goal

pub returns : goal.returns
unfolding price_sum_line
returns c =
    rw (to_z-of_z c.ranges.sum)
    at (c.put.ensures ▸ c.put_right.ensures ▸ c.put-2.ensures)
