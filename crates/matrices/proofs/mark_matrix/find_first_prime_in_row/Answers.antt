-- `mark_matrix::find_first_prime_in_row` meets its contract, which is its callee's at the mark of a prime.
use Rattle.steps.specs.Steps.{prime_in_row}
use Rattle.matrices.proofs.mark_matrix.find_first_prime_in_row.Goals as goal

pub returns : goal.returns
unfolding prime_in_row
returns c = c.find_first_mark_in_row.ensures
