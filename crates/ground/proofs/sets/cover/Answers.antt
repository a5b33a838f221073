-- `sets::cover` meets its contract: a word joined with one digit is the set with that line.
use mathlib.Core.Path.{ap, ◌∙◌}
use lib.Bits.{bit_or}
use Rattle.lines.proofs.Bits.{one_shl, or_with}
use Rattle.ground.proofs.sets.cover.Goals as goal

pub returns : goal.returns
returns c = let a = c.args in ap (bit_or a.lines) (one_shl 64 a.line c.requires) ∙ or_with a.lines a.line
