-- `put_total` meets its contract, piece after piece.
use mir.Facts.{to_z-of_z}
use Rattle.text.specs.Ascii.{ascii}
use Rattle.text.proofs.PutLaws.{◌▸◌}
use Rattle.listing.specs.List.{total_line}
use Rattle.listing.proofs.list.put_total.Goals as goal

pub returns : goal.returns
unfolding total_line ascii
returns c =
    rw (to_z-of_z c.ranges.total) at (c.put.ensures ▸ c.put_number.ensures ▸ c.put-2.ensures)
