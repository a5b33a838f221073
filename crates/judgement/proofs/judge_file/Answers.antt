-- `judge_file` meets its contract: the rest of the records gives the file's verdict (`Judging`); each record takes at least one byte.
use Rattle.std.proofs.Common.{sym, ap, ◌∙◌}
use Rattle.std.specs.Prelude.{Ok}
use Rattle.std.proofs.lemmas.Result.{err_from_is_err_and}
use Rattle.judgement.specs.View.{view_judged}
use Rattle.judgement.proofs.ViewLaws.{judging_start, judging_refused, judging_accepted, judging_further}
use Rattle.judgement.proofs.judge_file.Goals as goal

pub loop-init : goal.loop-init
loop-init c = rw c.restart.ensures (judging_start _)

pub returns-in_err-judge_record-clause-judged : goal.returns-in_err-judge_record-clause-judged
returns-in_err-judge_record-clause-judged c =
    let p = err_from_is_err_and c.from_residual.result c.from_residual.ensures.1 in
    rw (p.1, p.2) (judging_refused c.loop.invariant c.in_err-judge_record.ensures.judged)

pub returns-in-End-clause-judged : goal.returns-in-End-clause-judged
returns-in-End-clause-judged c =
    judging_accepted c.loop.invariant
    (ap (λ kind. view_judged (Ok kind) c.judge_record.new.self) (sym c.in-End.is) ∙ c.in_ok-judge_record.ensures.judged)

pub loop-smaller : goal.loop-smaller
loop-smaller c = (judging_further c.loop.invariant _ c.in_ok-judge_record.field-0 c.in_default.not-End c.in_ok-judge_record.ensures.judged).1

pub loop-preserved : goal.loop-preserved
loop-preserved c = (judging_further c.loop.invariant _ c.in_ok-judge_record.field-0 c.in_default.not-End c.in_ok-judge_record.ensures.judged).0
