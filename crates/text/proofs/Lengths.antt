-- How long numbers are as text, at the right end of a width or not, and the line of a refusal.
use mathlib.Core.List.{List}
use Prim.Native.Nat.{ℕ, suc, ◌≤◌, ◌<◌, ◌^◌}
use native.Mathlib.Omega.{arith}
use lib.IntN.{ℤ, pos, negsuc, nat_abs}
use lib.ListN.{length, length-append}
use Rattle.lines.specs.Bounds.{Within}
use Rattle.lines.proofs.Signed as Z
use Rattle.text.specs.Numbers.{decimal, sign, signed, right, refusal}
use Rattle.text.proofs.NumberLaws.{decimal_short, length_blanks}

-- blanks in front go up to the width, and no further
pub right_short : (width most : ℕ) (text : List ℕ) → width ≤ most → length text ≤ most → length (right width text) ≤ most
unfolding right
right_short width most text w h = simp (length-append, length_blanks) (omega arith)

pub decimal_right : (width digits n : ℕ) → suc digits ≤ width → n < 10 ^ suc digits → length (right width (decimal n)) ≤ width
decimal_right width digits n w h = right_short width width (decimal n) (omega arith) (omega (arith, decimal_short digits n h))

-- a number so far from 0 has a magnitude of so much
within_size : (most : ℕ) (z : ℤ) → Within most z → nat_abs z ≤ most
within_size most (pos n) w = omega (Z.signed, w.below)
within_size most (negsuc n) w = omega (Z.signed, w.above, Z.neg_parts (pos most))

-- its digits, and a sign
pub signed_short : (digits most : ℕ) (z : ℤ) → Within most z → most < 10 ^ suc digits → length (signed z) ≤ suc (suc digits)
unfolding signed sign
signed_short digits most (pos n) w h = omega (arith, decimal_short digits n (omega (arith, within_size most (pos n) w)))
signed_short digits most (negsuc n) w h = omega (arith, decimal_short digits (suc n) (omega (arith, within_size most (negsuc n) w)))

pub refusal_short : (number place : ℕ) → number ≤ 26 → place ≤ 1032 → length (refusal number place) ≤ 19
unfolding refusal
refusal_short number place h l = simp length-append (omega (arith, decimal_short 1 number (omega arith), decimal_short 3 place (omega arith)))
