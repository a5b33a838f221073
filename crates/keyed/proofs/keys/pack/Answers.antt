-- `keys::pack` meets its contract.
use Prim.Native.Nat.{ℕ, ◌+◌, ◌*◌, ◌<◌}
use native.Mathlib.Omega.{arith}
use Rattle.keyed.specs.Keys.{pack}
use Rattle.keyed.proofs.KeyBits.{packed_is}
use Rattle.keyed.proofs.keys.pack.Goals as goal

-- any two lines in one place, whichever stands first
two_lines : {a b : ℕ} → a < 64 → b < 64 → a * 64 + b < 4096
two_lines h l = omega arith

pub returns : goal.returns
unfolding pack
returns c = packed_is c.args.value (c.args.column * 64 + c.args.row) c.ranges.value c.requires.small (two_lines c.requires.column_bit c.requires.row_bit)
