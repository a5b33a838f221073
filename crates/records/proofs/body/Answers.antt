-- `body` meets its contract: the part lies within the file because a body was found.
use Rattle.std.proofs.Common.{arith}
use Rattle.records.proofs.RecordLaws.{found_fits, body_part, body_none}
use Rattle.records.proofs.body.Goals as goal

pub overflow_add-result-in-Ok-2 : goal.overflow_add-result-in-Ok-2
overflow_add-result-in-Ok-2 c = omega (arith, found_fits _ _ c.find.ensures.exact c.in-Ok.is)

pub slice_bounds-result-end : goal.slice_bounds-result-end
slice_bounds-result-end c = omega (arith, found_fits _ _ c.find.ensures.exact c.in-Ok.is)

pub returns-in-Ok : goal.returns-in-Ok
returns-in-Ok c = body_part _ _ c.find.ensures.exact c.in-Ok.is

pub returns-in-Err : goal.returns-in-Err
returns-in-Err c = body_none _ _ c.find.ensures.exact c.in-Err.is
