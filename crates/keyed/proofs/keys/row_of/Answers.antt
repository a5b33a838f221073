-- `keys::row_of` meets its contract.
use mathlib.Core.Path.{ap}
use Prim.Native.Nat.{◌%◌}
use Rattle.keyed.specs.Keys.{row_of}
use Rattle.keyed.proofs.KeyBits.{unsigned_is}
use Rattle.keyed.proofs.keys.row_of.Goals as goal

pub returns : goal.returns
unfolding row_of
returns c = ap (λ x. x % 64) (unsigned_is c.args.key c.ranges.key c.requires)
