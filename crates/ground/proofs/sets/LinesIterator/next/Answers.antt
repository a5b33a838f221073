-- The iterator over a set nears its end: what is left without its lowest line is less.
use Rattle.std.proofs.Common.{rules}
use Rattle.lines.proofs.Bits.{lowest_less}
use Rattle.ground.proofs.sets.LinesIterator.next.Goals as goal

pub returns-clause-goes : goal.returns-clause-goes
returns-clause-goes c = record {
  on = λ f. (tt, tt, rw c.without_lowest-self.ensures (lowest_less _ _ (search rules) c.if-self-eq0.false));
  keeps = tt;
  rests = λ f. tt;
}
