-- `sum` meets its contract: after so many values, their sum.
use Rattle.listing.proofs.SumLaws.{Summed}
use Rattle.listing.proofs.numbers.sum.Given as goal

abbrev pub invariant-loop-i : goal.invariant-loop-i
invariant-loop-i l = Summed l.values l.i l.total
