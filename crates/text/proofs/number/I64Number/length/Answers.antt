-- `length` of an `i64` meets its contract, by the sign.
use native.Mathlib.Omega.{arith}
use Rattle.text.proofs.NumberLaws.{signed_below, signed_above}
use Rattle.text.proofs.number.I64Number.length.Goals as goal

pub returns-then-self-lt0 : goal.returns-then-self-lt0
returns-then-self-lt0 c = rw (signed_below _ c.ranges.self _ c.unsigned_abs.ensures.value c.if-self-lt0.true) (omega (arith, c.decimal_length-digits.ensures.value))

pub returns-else-self-lt0 : goal.returns-else-self-lt0
returns-else-self-lt0 c = rw (signed_above _ c.ranges.self _ c.unsigned_abs.ensures.value c.if-self-lt0.false) c.decimal_length-digits.ensures.value
