-- `sets::uncovered_lines` meets its contract: the turned word, cut to n digits.
use mathlib.Core.Path.{ap, ◌∙◌}
use Prim.Native.Nat.{◌-◌, ◌^◌}
use lib.Bits.{bit_and}
use Rattle.lines.proofs.Bits.{not_rest}
use Rattle.ground.proofs.sets.uncovered_lines.Goals as goal

pub returns : goal.returns
returns c =
    let a = c.args in
    ap (bit_and ((2 ^ 64 - 1) - a.lines)) c.all_lines.ensures ∙ not_rest 64 a.n a.lines c.ranges.lines.fits c.requires.most
