-- `read` of a u32: four bytes, the lowest first.
use Rattle.std.proofs.Common.{◌≡◌, ◌+◌, arith}
use Rattle.judgement.specs.Numbers.{u16_at, u32_at}
use Rattle.judgement.proofs.numbers.U32Number.read.Goals as goal

pub returns : goal.returns
unfolding u16_at u32_at
returns c =
    let last : c.args.place + 2 + 1 ≡ c.args.place + 3 = omega arith in rw last (omega (arith, c.from_le_bytes.ensures))
