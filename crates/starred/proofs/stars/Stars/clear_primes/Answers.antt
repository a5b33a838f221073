-- `Stars::clear_primes` leaves n in every row.
use mathlib.Core.Path.{◌∙◌}
use lib.ListN.{length}
use Rattle.lines.proofs.Squares.{table_same}
use Rattle.starred.proofs.stars.Stars.clear_primes.Goals as goal

pub returns-clause-prime : goal.returns-clause-prime
returns-clause-prime c = c.fill.ensures.after (λ y e. e) ∙ table_same c.args.n (length c.args.self.now.prime)
