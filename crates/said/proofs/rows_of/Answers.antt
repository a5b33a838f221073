-- `rows_of` meets its contract.
use Rattle.std.proofs.Common.{◌+◌, refl, arith}
use Rattle.judgement.specs.Numbers.{u16_at, u32_at}
use Rattle.judgement.specs.Says.{row_area, row_clock}
use Rattle.said.proofs.SaidLaws.{said_refused, rows_readable, row_said}
use Rattle.said.proofs.rows_of.Goals as goal

pub put-requires : goal.put-requires
put-requires c = rows_readable _ c.in-Ok.ensures.judged _ (omega arith) c.as_slice.ensures

pub put-requires-in-Ok : goal.put-requires-in-Ok
put-requires-in-Ok c = rows_readable _ c.in-Ok.ensures.judged _ (omega arith) c.as_slice-in-Ok.ensures

pub returns-in-Ok : goal.returns-in-Ok
unfolding row_area row_clock
returns-in-Ok c = (
  row_said _ c.in-Ok.ensures.judged row_area (λ file o. u16_at file (o + 3)) (λ d i. refl) c.as_slice.ensures _ c.put.ensures,
  row_said _ c.in-Ok.ensures.judged row_clock (λ file o. u32_at file (o + 5)) (λ d i. refl) c.as_slice-in-Ok.ensures _ c.put-in-Ok.ensures,
)

pub returns-in_default : goal.returns-in_default
returns-in_default c = (said_refused _ _ _ c.in_default.ensures.judged, said_refused _ _ _ c.in_default.ensures.judged)
