-- Signed numbers in the code: a local holds bits, and its value is read back from them; a cost of 32 bits is widened to 64; what will stand in a list fits.
use mathlib.Core.Path.{◌≡◌, refl}
use mathlib.Core.List.{List}
use Prim.Native.Nat.{ℕ, suc, ◌+◌, ◌-◌, ◌*◌, ◌/◌, ◌%◌, ◌<◌, ◌^◌}
use native.Mathlib.Omega.{arith}
use borrow.Author.Tests.{ne_eqb}
use lib.Dec.{eqb}
use lib.IntN.{ℤ, pos, negsuc, ◌-ℤ◌}
use lib.ListN.{length, get_or}
use lib.Signed.{mag}
use mir.Syntax.{w32, w64}
use mir.Val.{SFits, to_z, of_z}
use mir.Facts.{to_z-of_z}
use Rattle.lines.specs.Square.{each}
use Rattle.lines.specs.Bounds.{Within}
use Rattle.lines.proofs.Signed.{signed, neg_parts, minus_parts, size, within_fits}
use Rattle.lines.proofs.Squares.{place_lt, place_of, length_each, each_at}
use Rattle.steps.specs.Steps.{is_zero}
use Rattle.ground.specs.Square.{Fit64}

pub back64 : (z : ℤ) → mag z < 2 ^ 63 → to_z w64 (of_z w64 z) ≡ z
back64 z h = to_z-of_z {w = w64} (record { sfits = h })

pub back : (z y : ℤ) → z ≡ y → SFits w64 y → to_z w64 (of_z w64 z) ≡ y
back z y e h = rw e (to_z-of_z h)

-- a signed number is compared with 0 by its bits
pub zero_bits : (z : ℤ) → SFits w64 z → eqb (of_z w64 z) 0 ≡ is_zero z
unfolding is_zero
zero_bits (pos n) f = refl
zero_bits (negsuc n) f = let h = f.sfits in ne_eqb (2 ^ 64 - suc n) 0 (λ e. omega arith)

-- an `i32` as an `i64`: what the cast asks, and what comes of it
pub wide_fits : (z : ℤ) → mag z < 2 ^ 31 → SFits w64 (to_z w32 (of_z w32 z))
wide_fits z h = rw (to_z-of_z {w = w32} {z = z} (record { sfits = h })) (record { sfits = omega arith })

pub wide_back : (z : ℤ) → mag z < 2 ^ 31 → to_z w64 (of_z w64 (to_z w32 (of_z w32 z))) ≡ z
wide_back z h = rw (to_z-of_z {w = w32} {z = z} (record { sfits = h })) (back64 z (omega arith))

pub wide_within : (z : ℤ) → mag z < 2 ^ 31 → Within 2147483648 (to_z w64 (of_z w64 (to_z w32 (of_z w32 z))))
wide_within z h = rw (wide_back z h) (record { above = omega (signed, neg_parts (pos 2147483648), size z); below = omega (signed, size z) })

-- a cost less a price, both held by locals
pub excess_fits : (x m : ℤ) → mag x < 2 ^ 31 → Within 2147483648 m → SFits w64 (to_z w64 (of_z w64 (to_z w32 (of_z w32 x))) -ℤ to_z w64 (of_z w64 m))
excess_fits x m h k =
    rw (wide_back x h, to_z-of_z (within_fits w64 k (omega arith))) (omega (signed, minus_parts x m, size x, k.above, k.below, neg_parts (pos 2147483648)))

pub excess_back : (x m : ℤ) → mag x < 2 ^ 31 → Within 2147483648 m
    → to_z w64 (of_z w64 (to_z w64 (of_z w64 (to_z w32 (of_z w32 x))) -ℤ to_z w64 (of_z w64 m))) ≡ x -ℤ to_z w64 (of_z w64 m)
excess_back x m h k = rw (to_z-of_z (excess_fits x m h k), wide_back x h)

-- what a rewritten list holds fits, so each new value does
pub each_fits : (f : ℕ → ℤ → ℤ) (xs : List ℤ) → Fit64 (each f xs) → (k : ℕ) → k < length xs → SFits w64 (f k (get_or xs k (pos 0)))
each_fits f xs fit k h = rw (each_at (pos 0) f xs k h) at (fit k (rw (length_each f xs) h))

pub square_fits : (n : ℕ) (F : ℕ → ℕ → ℤ → ℤ) (xs : List ℤ) → length xs ≡ n * n → Fit64 (each (λ q x. F (q / n) (q % n) x) xs) → (i j : ℕ) → i < n → j < n
    → SFits w64 (F i j (get_or xs (i * n + j) (pos 0)))
square_fits n F xs size fit i j hi hj =
    let p = place_of n i j hj in
    rw (p.0, p.1) at (each_fits (λ q x. F (q / n) (q % n) x) xs fit (i * n + j) (omega (arith, place_lt n i j hi hj)))
