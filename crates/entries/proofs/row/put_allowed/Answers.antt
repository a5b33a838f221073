-- `put_allowed` meets its contract, piece after piece.
use mir.Facts.{to_z-of_z}
use Rattle.text.proofs.PutLaws.{◌▸◌}
use Rattle.entries.specs.Lines.{allowed_line}
use Rattle.entries.proofs.row.put_allowed.Goals as goal

pub returns : goal.returns
unfolding allowed_line
returns c =
    rw (to_z-of_z c.ranges.spare)
    at (c.put_right.ensures ▸ c.put_right-2.ensures ▸ c.put_prices.ensures ▸ c.put.ensures ▸ c.put_right-3.ensures ▸ c.put-2.ensures)
