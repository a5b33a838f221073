-- `put_pairing` meets its contract, piece after piece.
use borrow.Author.Rules.{rules}
use mir.Facts.{to_z-of_z}
use mir.Syntax.{w64}
use Rattle.text.proofs.PutLaws.{◌▸◌}
use Rattle.listing.specs.List.{pairing_lines}
use Rattle.listing.proofs.list.put_pairing.Goals as goal

pub returns : goal.returns
unfolding pairing_lines
returns c =
    let s = c.args.sums in
    rw (to_z-of_z {w = w64} {z = s.difference} (search rules), to_z-of_z {w = w64} {z = s.event_price} (search rules))
    at (c.put_pairs.ensures ▸ c.put_sums.ensures ▸ c.put_event_prices.ensures ▸ c.put_total.ensures)
