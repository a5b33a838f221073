-- `hut_number` gives the number of what `hut_of` found.
use Rattle.case_face.proofs.HutLaws.{number_is}
use Rattle.case_face.proofs.hut_number.Goals as goal

pub returns : goal.returns
returns c = rw (← c.hut_of.ensures) (number_is c.hut_of.result c.map_or.ensures)
