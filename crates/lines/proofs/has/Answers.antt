-- `has` meets its contract: the shift and the mask leave the digit of the line.
use Rattle.lines.proofs.Bits.{has_shr}
use Rattle.lines.proofs.has.Goals as goal

pub returns : goal.returns
returns c = has_shr c.args.set c.args.line
