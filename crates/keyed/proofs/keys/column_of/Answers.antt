-- `keys::column_of` meets its contract.
use mathlib.Core.Path.{ap}
use Prim.Native.Nat.{◌/◌, ◌%◌}
use Rattle.keyed.specs.Keys.{column_of}
use Rattle.keyed.proofs.KeyBits.{unsigned_is}
use Rattle.keyed.proofs.keys.column_of.Goals as goal

pub returns : goal.returns
unfolding column_of
returns c = ap (λ x. x / 64 % 64) (unsigned_is c.args.key c.ranges.key c.requires)
