-- `solve_bytes` keeps the solver's promise on the costs that the bytes are: the costs that are read are those, or the answer is 1 to 3 for both.
use mathlib.Core.Path.{sym}
use lib.Seq.{length-take-le}
use Rattle.cost_bytes.proofs.ByteLaws.{readable_fits, readable_few, read_promise}
use Rattle.serbihun.proofs.solve.solve_bytes.Goals as goal

pub decode-requires : goal.decode-requires
decode-requires g c = rw c.cells_to_read-cells.ensures (readable_fits _ _)

pub slice_bounds-numbers-end : goal.slice_bounds-numbers-end
slice_bounds-numbers-end g c = readable_few _ _ c.cells_to_read-cells.ensures c.decode.auto.costs

pub slice_bounds-solve_assignment-end : goal.slice_bounds-solve_assignment-end
slice_bounds-solve_assignment-end g c =
    sym (length-take-le _ _ (readable_few _ _ c.cells_to_read-cells.ensures c.decode.auto.costs))

pub returns : goal.returns
returns g c =
    read_promise _ _ _ _ _ _ _ c.cells_to_read-cells.ensures c.decode.ensures c.solve_assignment.ensures
