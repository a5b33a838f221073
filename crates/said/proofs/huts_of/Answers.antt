-- `huts_of` meets its contract.
use Rattle.std.proofs.Common.{◌+◌, refl, arith}
use Rattle.judgement.specs.Numbers.{u16_at}
use Rattle.judgement.specs.Says.{hut_of}
use Rattle.said.proofs.SaidLaws.{said_refused, rows_readable, row_said}
use Rattle.said.proofs.huts_of.Goals as goal

pub put-requires : goal.put-requires
put-requires c = rows_readable _ c.in-Ok.ensures.judged _ (omega arith) c.as_slice.ensures

pub returns-in-Ok : goal.returns-in-Ok
unfolding hut_of
returns-in-Ok c = row_said _ c.in-Ok.ensures.judged hut_of (λ file o. u16_at file (o + 1)) (λ d i. refl) c.as_slice.ensures _ c.put.ensures

pub returns-in_default : goal.returns-in_default
returns-in_default c = said_refused _ _ _ c.in_default.ensures.judged
