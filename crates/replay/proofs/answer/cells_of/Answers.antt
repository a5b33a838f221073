-- `cells_of` counts at most 4,096 cells.
use native.Mathlib.Nat.{mul-le-mul}
use native.Mathlib.Omega.{arith}
use Rattle.replay.proofs.answer.cells_of.Goals as goal

pub overflow_mul-result : goal.overflow_mul-result
overflow_mul-result c = omega (arith, mul-le-mul c.requires c.requires)

pub returns : goal.returns
returns c = omega (arith, mul-le-mul c.requires c.requires)
