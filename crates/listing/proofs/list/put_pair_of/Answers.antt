-- `put_pair_of` meets its contract: every index lies in its list, and the numbers are those of the lists.
use Rattle.listing.specs.List.{pair_of}
use Rattle.listing.proofs.list.put_pair_of.Goals as goal

pub returns : goal.returns
unfolding pair_of
returns c =
    let p = c.prices.ensures in
    rw (p.difference, p.row_price, p.event_price) at c.put_pair.ensures
