-- `find_kind` meets its contract, test by test (`RecordLaws`).
use Rattle.std.proofs.Common.{sym, ap, ◌∙◌}
use Rattle.std.proofs.lemmas.Result.{err_from_is_err_and}
use Rattle.records.specs.Records.{known, body_length}
use Rattle.records.proofs.RecordLaws.{past_end, strange, short, whole, code_known}
use Rattle.records.proofs.find_kind.Goals as goal

pub returns-in_default : goal.returns-in_default
returns-in_default c = past_end _ _ c.in_default.ensures.lookup.3

pub returns-in_err-kind : goal.returns-in_err-kind
returns-in_err-kind c =
    let look = c.in-Some.ensures.lookup.3 in
    let p = err_from_is_err_and c.from_residual.result c.from_residual.ensures.1 in
    rw (p.1, p.2, c.in_err-kind.ensures.0) (strange _ _ look.0 (ap known (sym (look.1 0)) ∙ c.in_err-kind.ensures.1))

pub returns-then-file-at : goal.returns-then-file-at
returns-then-file-at c =
    let look = c.in-Some.ensures.lookup.3 in
    let code = c.in_ok-kind.ensures ∙ look.1 0 in
    short c.args.file.now c.args.at look.0 (code_known c.in_ok-kind.kind code) (c.body_length.ensures ∙ ap body_length code) c.if-file-at.true

pub returns : goal.returns
returns c =
    let look = c.in-Some.ensures.lookup.3 in
    let code = c.in_ok-kind.ensures ∙ look.1 0 in
    let length = c.body_length.ensures in
    (code, whole c.args.file.now c.args.at look.0 (code_known c.in_ok-kind.kind code) (ap body_length code) (rw length at c.if-file-at.false))
