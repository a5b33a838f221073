-- Signed numbers in the code: a local holds bits, and its value is read back from them; a number of 32 bits is widened to 64.
use mathlib.Core.Path.{◌≡◌}
use Prim.Native.Nat.{◌<◌, ◌^◌}
use native.Mathlib.Omega.{arith}
use lib.IntN.{ℤ}
use lib.Signed.{mag}
use mir.Syntax.{Width, w32, w64}
use mir.Val.{hbits, SFits, to_z, of_z}
use mir.Facts.{to_z-of_z}

pub back : (w : Width) (z : ℤ) → mag z < 2 ^ hbits w → to_z w (of_z w z) ≡ z
back w z h = to_z-of_z (record { sfits = h })

-- an `i32` as an `i64`: what the cast asks, and what comes of it
pub wide_fits : (z : ℤ) → mag z < 2 ^ 31 → SFits w64 (to_z w32 (of_z w32 z))
wide_fits z h = rw (back w32 z h) (record { sfits = omega arith })

pub wide_back : (z : ℤ) → mag z < 2 ^ 31 → to_z w64 (of_z w64 (to_z w32 (of_z w32 z))) ≡ z
wide_back z h = rw (back w32 z h) (back w64 z (omega arith))
