-- `judge_record` meets its contract, kind by kind: what it reads lies within the file because the record is whole.
use Rattle.std.proofs.Common.{◌∙◌}
use Rattle.std.proofs.lemmas.Result.{err_from_is_err_and}
use Rattle.judgement.specs.Scan.{with_row, with_column}
use Rattle.judgement.specs.Listed.{listed}
use Rattle.judgement.specs.View.{view_scan}
use Rattle.judgement.proofs.ViewLaws.{is_missing, size_inside, is_size, is_fragment, is_event, is_end, line_refused, line_kept, more_consistent}
use Rattle.judgement.proofs.scan.Scan.judge_record.Goals as goal

pub returns-in-Err-clause-judged : goal.returns-in-Err-clause-judged
returns-in-Err-clause-judged c = is_missing _ (view_scan c.args.self.now) c.from.ensures c.at.ensures c.in-Err.ensures

-- ---- a size

pub judge_size-requires : goal.judge_size-requires
judge_size-requires c = (c.requires, size_inside _ (view_scan c.args.self.now) _ c.in-Ok.ensures c.in-Size.is)

pub returns-in_err-judge_size-in-Size : goal.returns-in_err-judge_size-in-Size
returns-in_err-judge_size-in-Size c =
    let p = err_from_is_err_and c.from_residual.result c.from_residual.ensures.1 in
    let refused = c.in_err-judge_size-in-Size.ensures in
    rw (p.1, p.2) (record {
      judged = refused.judged ∙ is_size _ (view_scan c.args.self.now) _ c.in-Ok.ensures c.in-Size.is;
      consistent = rw refused.refused c.requires;
    })

pub returns-in_ok-judge_size-in-Size : goal.returns-in_ok-judge_size-in-Size
returns-in_ok-judge_size-in-Size c =
    let judged = c.in_ok-judge_size-in-Size.ensures.judged ∙ is_size _ (view_scan c.args.self.now) _ c.in-Ok.ensures c.in-Size.is in
    rw c.in-Size.is (record { judged = judged; consistent = more_consistent _ _ c.requires judged })

-- ---- a fragment

pub returns-in_err-judge_line-in-Fragment : goal.returns-in_err-judge_line-in-Fragment
returns-in_err-judge_line-in-Fragment c =
    let s = view_scan c.args.self.now in
    let p = err_from_is_err_and c.from_residual-in_err-judge_line-in-Fragment.result c.from_residual-in_err-judge_line-in-Fragment.ensures.1 in
    let refused = c.in_err-judge_line-in-Fragment.ensures in
    rw (p.1, p.2) (record {
      judged = line_refused s (with_row s) s.fragments (listed c.judge_line.new.lines) refused ∙ is_fragment _ s _ c.in-Ok.ensures c.in-Fragment.is;
      consistent = rw refused.0 c.requires;
    })

pub returns-in_ok-judge_line-in-Fragment : goal.returns-in_ok-judge_line-in-Fragment
returns-in_ok-judge_line-in-Fragment c =
    let s = view_scan c.args.self.now in
    let kept = c.in_ok-judge_line-in-Fragment.ensures in
    let judged = line_kept s (with_row s) s.fragments _ kept ∙ is_fragment _ s _ c.in-Ok.ensures c.in-Fragment.is in
    rw (c.in-Fragment.is, kept.2) (record { judged = judged; consistent = more_consistent _ _ c.requires judged })

-- ---- an event

pub returns-in_err-judge_line-in-Event : goal.returns-in_err-judge_line-in-Event
returns-in_err-judge_line-in-Event c =
    let s = view_scan c.args.self.now in
    let p = err_from_is_err_and c.from_residual-in_err-judge_line-in-Event.result c.from_residual-in_err-judge_line-in-Event.ensures.1 in
    let refused = c.in_err-judge_line-in-Event.ensures in
    rw (p.1, p.2) (record {
      judged = line_refused s (with_column s) s.events (listed c.judge_line-in-Event.new.lines) refused ∙ is_event _ s _ c.in-Ok.ensures c.in-Event.is;
      consistent = rw refused.0 c.requires;
    })

pub returns-in_ok-judge_line-in-Event : goal.returns-in_ok-judge_line-in-Event
returns-in_ok-judge_line-in-Event c =
    let s = view_scan c.args.self.now in
    let kept = c.in_ok-judge_line-in-Event.ensures in
    let judged = line_kept s (with_column s) s.events _ kept ∙ is_event _ s _ c.in-Ok.ensures c.in-Event.is in
    rw (c.in-Event.is, kept.2) (record { judged = judged; consistent = more_consistent _ _ c.requires judged })

-- ---- the end

pub returns-in_err-judge_end-in-End : goal.returns-in_err-judge_end-in-End
returns-in_err-judge_end-in-End c =
    let p = err_from_is_err_and c.from_residual-in_err-judge_end-in-End.result c.from_residual-in_err-judge_end-in-End.ensures.1 in
    rw (p.1, p.2) (record { judged = c.in_err-judge_end-in-End.ensures ∙ is_end _ (view_scan c.args.self.now) _ c.in-Ok.ensures c.in-End.is; consistent = c.requires })

pub returns-in_ok-judge_end-in-End : goal.returns-in_ok-judge_end-in-End
returns-in_ok-judge_end-in-End c =
    rw c.in-End.is (record { judged = c.in_ok-judge_end-in-End.ensures ∙ is_end _ (view_scan c.args.self.now) _ c.in-Ok.ensures c.in-End.is; consistent = c.requires })
