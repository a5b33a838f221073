-- `marks::find_first_star_in_row` meets its contract, which is its callee's at the mark of a star.
use Rattle.steps.specs.Steps.{star_in_row}
use Rattle.ground.proofs.marks.find_first_star_in_row.Goals as goal

pub returns : goal.returns
unfolding star_in_row
returns c = c.find_first_mark_in_row.ensures
