-- `record_at` gives the part of the file where `find` found a body; its start fits because the body lies within the file.
use Rattle.std.proofs.Common.{sym, ap, ◌∙◌}
use Rattle.case_face.specs.Case.{record_at, part_of_file}
use Rattle.case_face.proofs.record_at.Goals as goal

pub returns-in-Ok : goal.returns-in-Ok
unfolding record_at
returns-in-Ok c = ap (record_at _) (sym c.in-Ok.is ∙ c.find.ensures.exact)

pub returns-in-Err : goal.returns-in-Err
unfolding record_at
returns-in-Err c =
    ap (λ n. part_of_file n 0 0) (c.number.ensures ∙ c.from.ensures) ∙ ap (record_at c.args.at) (sym c.in-Err.is ∙ c.find.ensures.exact)
