-- The room of a program, as what is lent.
use Rattle.steps.specs.Lent.{buffers}
use Rattle.pairing.specs.Pair.{Loan, loan}
use Rattle.pairing.specs.declared.room.Room.{Room}

abbrev pub lent : Room → Loan
lent r = loan r.costs r.mask (buffers r.working r.marks r.columns r.row_prices r.column_prices)
