-- `pair` leaves no more rows than there is room for, as the promise of `pair_case` says.
use Rattle.pairing.proofs.Fronts.{fresh_room}
use Rattle.price_list.proofs.PromiseLaws.{few_rows}
use Rattle.price_list.proofs.report.pair.Goals as goal

pub invariant_of-solved : goal.invariant_of-solved
invariant_of-solved c = record { small = few_rows (rw c.requires.room at c.pair_case-pairs.ensures) fresh_room }
