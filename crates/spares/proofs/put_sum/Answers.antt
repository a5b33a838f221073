-- `put_sum` meets its contract, piece after piece.
use borrow.Author.Rules.{rules}
use mir.Facts.{to_z-of_z}
use mir.Syntax.{w64}
use Rattle.text.specs.Ascii.{ascii}
use Rattle.text.proofs.PutLaws.{◌▸◌}
use Rattle.spares.specs.Spares.{sum_words}
use Rattle.spares.proofs.put_sum.Goals as goal

pub returns : goal.returns
unfolding sum_words ascii
returns c =
    let s = c.args.sums in
    rw (to_z-of_z {w = w64} {z = s.difference} (search rules), to_z-of_z {w = w64} {z = s.row_price} (search rules), to_z-of_z {w = w64} {z = s.event_price} (search rules))
    at (c.put_number.ensures ▸ c.put.ensures ▸ c.put_number-2.ensures ▸ c.put-2.ensures ▸ c.put_number-3.ensures)
