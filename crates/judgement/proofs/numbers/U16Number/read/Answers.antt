-- `read` of a u16: two bytes, the lower first.
use Rattle.std.proofs.Common.{arith}
use Rattle.judgement.specs.Numbers.{u16_at}
use Rattle.judgement.proofs.numbers.U16Number.read.Goals as goal

pub returns : goal.returns
unfolding u16_at
returns c = omega (arith, c.from_le_bytes.ensures)
