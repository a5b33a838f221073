-- `sets::lowest_line` meets its contract: the count of trailing zeros is the lowest member.
use Rattle.lines.proofs.Bits.{lowest_is}
use Rattle.ground.proofs.sets.lowest_line.Goals as goal

pub returns : goal.returns
returns c = lowest_is 64 c.args.lines
