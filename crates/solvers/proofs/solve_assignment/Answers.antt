-- `solve_assignment` keeps its promise: the judgement stops the call, or the steps are made and their end is given back.
use mathlib.Core.Path.{refl}
use Rattle.steps.proofs.Promised.{promised}
use Rattle.answers.proofs.CallLaws.{verdict_is, dead_inside, stopped_promise, start_asks, frame, frame_limit, kept_start, finish_asks, solved}
use Rattle.solvers.proofs.solve_assignment.Goals as goal

pub run-run-requires : goal.run-run-requires
run-run-requires g c =
    let v = verdict_is _ _ _ _ _ c.in-Ok.ensures in
    record { asks = start_asks _ _ _ _ _ v; frame = frame _ _ _ _ _ v; fresh = frame_limit _ _ _ _ _ v; kept = kept_start _ _ _ _ _ v refl }

pub finish-requires : goal.finish-requires
finish-requires g c = finish_asks _ _ _ _ _ (verdict_is _ _ _ _ _ c.in-Ok.ensures) c.run-run.ensures

pub returns-in-Ok : goal.returns-in-Ok
returns-in-Ok g c = promised (solved _ _ _ _ _ (verdict_is _ _ _ _ _ c.in-Ok.ensures) refl c.run-run.ensures c.finish.ensures)

pub stopped-requires : goal.stopped-requires
stopped-requires g c = dead_inside _ _ _ _ c.in-Err.why c.in-Err.ensures

pub returns-in-Err : goal.returns-in-Err
returns-in-Err g c = stopped_promise _ _ _ _ _ c.in-Err.why c.in-Err.ensures c.stopped.ensures
