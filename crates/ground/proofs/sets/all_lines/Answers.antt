-- `sets::all_lines` meets its contract: all 64 digits, shifted until n are left.
use Rattle.lines.proofs.Bits.{all_shr}
use Rattle.ground.proofs.sets.all_lines.Goals as goal

pub returns : goal.returns
returns c = all_shr 64 c.args.n c.requires.most
