-- `keys::value_of` meets its contract.
use mathlib.Core.Path.{ap, ◌∙◌}
use Prim.Native.Nat.{◌/◌}
use mir.Syntax.{w64}
use mir.Val.{to_z}
use mir.Facts.{to_z_pos}
use Rattle.keyed.specs.Keys.{value_of}
use Rattle.keyed.proofs.KeyBits.{unsigned_is, value_small}
use Rattle.keyed.proofs.keys.value_of.Goals as goal

pub returns : goal.returns
unfolding value_of
returns c =
    ap (λ x. to_z w64 (x / 4096)) (unsigned_is c.args.key c.ranges.key c.requires) ∙ to_z_pos w64 (value_small c.args.key c.ranges.key c.requires)
