-- `hut_of` reads the hut of the row's fragment where the file is accepted and has the row.
use Rattle.std.proofs.Common.{◌+◌, ◌∙◌, ap, arith}
use Rattle.judgement.specs.Numbers.{u16_at}
use Rattle.storm_case.proofs.CaseLaws.{hut_refused, hut_past, hut_there, fragment_inside}
use Rattle.storm_case.proofs.hut_of.Goals as goal

pub returns-in_default : goal.returns-in_default
returns-in_default c = hut_refused _ _ c.in_default.ensures.judged

pub returns-in_err-fragment : goal.returns-in_err-fragment
returns-in_err-fragment c =
    rw c.from_residual.ensures (hut_past _ _ c.in-Ok.ensures.judged (rw c.as_slice.ensures at c.in_err-fragment.ensures.lookup.3))

pub overflow_add-fragment : goal.overflow_add-fragment
overflow_add-fragment c =
    let look = rw c.as_slice.ensures at c.in_ok-fragment.ensures.lookup.3 in
    omega (arith, fragment_inside _ _ c.in-Ok.ensures.judged look.0, look.1 0)

pub read-requires : goal.read-requires
read-requires c =
    let look = rw c.as_slice.ensures at c.in_ok-fragment.ensures.lookup.3 in
    omega (arith, fragment_inside _ _ c.in-Ok.ensures.judged look.0, look.1 0)

pub returns : goal.returns
returns c =
    let look = rw c.as_slice.ensures at c.in_ok-fragment.ensures.lookup.3 in
    hut_there _ _ c.in-Ok.ensures.judged look.0 (c.read.ensures ∙ ap (λ o. u16_at c.args.file.now (o + 1)) (look.1 0))
