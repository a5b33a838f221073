-- `path::find_path` meets its contract: what is recorded and what is still to come are the path (`Walked`).
use mathlib.Core.Path.{◌∙◌}
use native.Mathlib.Omega.{arith}
use lib.ListN.{length-append}
use Rattle.matrices.proofs.Walk.{walked_none, walked_last, walked_few, walked_star, walked_on, walked_prime, walked_more}
use Rattle.matrices.proofs.path.find_path.Goals as goal

pub loop-star-init : goal.loop-star-init
loop-star-init c = rw c.empty-path.ensures (walked_none _ _ _ _ c.requires)

pub returns-in_default-clause-whole : goal.returns-in_default-clause-whole
returns-in_default-clause-whole c = c.push.ensures ∙ walked_last c.loop-star.invariant c.in_default.ensures

pub returns-in_default-clause-few : goal.returns-in_default-clause-few
returns-in_default-clause-few c = rw c.push.ensures (walked_few c.loop-star.invariant)

pub push-requires-in-loop-star : goal.push-requires-in-loop-star
push-requires-in-loop-star c = rw c.push.ensures (simp length-append (omega (arith, walked_on c.loop-star.invariant c.in-Some.ensures)))

pub find_first_prime_in_row-requires : goal.find_first_prime_in_row-requires
find_first_prime_in_row-requires c = (c.requires.marks_square, walked_star c.loop-star.invariant c.in-Some.ensures)

pub returns-in_default-find_first_prime_in_row : goal.returns-in_default-find_first_prime_in_row
returns-in_default-find_first_prime_in_row c = absurd (walked_prime c.loop-star.invariant c.in-Some.ensures c.in_default-find_first_prime_in_row.ensures)

pub loop-star-preserved : goal.loop-star-preserved
loop-star-preserved c =
    rw (c.push-in-loop-star.ensures, c.push.ensures)
    (walked_more c.loop-star.invariant c.in-Some.ensures c.in-Some-find_first_prime_in_row.ensures)
