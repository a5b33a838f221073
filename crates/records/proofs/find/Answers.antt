-- `find` meets its contract: the length that the kind fixes, or why there is none.
use Rattle.std.proofs.lemmas.Result.{err_from_is_err_and}
use Rattle.records.proofs.RecordLaws.{finds}
use Rattle.records.proofs.find.Goals as goal

pub returns-in_err-find_kind : goal.returns-in_err-find_kind
returns-in_err-find_kind c =
    let p = err_from_is_err_and c.from_residual.result c.from_residual.ensures.1 in rw (p.1, p.2) (finds _ _ c.in_err-find_kind.ensures)

pub returns : goal.returns
returns c = rw c.body_length.ensures (finds _ _ c.in_ok-find_kind.ensures.1)
