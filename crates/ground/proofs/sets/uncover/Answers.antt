-- `sets::uncover` meets its contract: a word with one digit masked out is the set without that line.
use mathlib.Core.Path.{ap, ◌∙◌}
use Prim.Native.Nat.{ℕ, ◌-◌, ◌^◌}
use lib.Bits.{bit_and}
use Rattle.lines.proofs.Bits.{one_shl, and_without}
use Rattle.ground.proofs.sets.uncover.Goals as goal

pub returns : goal.returns
returns c =
    let a = c.args in
    ap (λ (x : ℕ). bit_and a.lines ((2 ^ 64 - 1) - x)) (one_shl 64 a.line c.requires) ∙ and_without 64 a.lines a.line c.ranges.lines.fits c.requires
