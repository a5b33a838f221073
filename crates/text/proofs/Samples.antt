-- Texts, computed.
use mathlib.Core.Path.{◌≡◌, refl, sym, ap}
use mathlib.Core.List.{[], ◌∷◌}
use native.Mathlib.Omega.{arith}
use lib.Dec.{lit<, lit≤}
use lib.IntN.{pos, negsuc}
use Rattle.text.specs.Text.{front, put}
use Rattle.text.specs.Numbers.{decimal_from, decimal, sign, signed, blanks, right}
use Rattle.text.proofs.NumberLaws.{digits_decimal}

-- 0, 9, 10, 800
pub decimals : (decimal 0 ≡ 48 ∷ []) × (decimal 9 ≡ 57 ∷ []) × (decimal 10 ≡ 49 ∷ 48 ∷ []) × (decimal 800 ≡ 56 ∷ 48 ∷ 48 ∷ [])
unfolding decimal decimal_from
decimals = (refl, refl, refl, refl)

-- the lowest i64, -9223372036854775808; by its 19 digits, since `decimal` computes in as many steps as the number says
pub lowest : signed (negsuc 9_223_372_036_854_775_807)
    ≡ 45 ∷ 57 ∷ 50 ∷ 50 ∷ 51 ∷ 51 ∷ 55 ∷ 50 ∷ 48 ∷ 51 ∷ 54 ∷ 56 ∷ 53 ∷ 52 ∷ 55 ∷ 55 ∷ 53 ∷ 56 ∷ 48 ∷ 56 ∷ []
unfolding signed sign
lowest = ap (λ digits. 45 ∷ digits) (sym (digits_decimal 19 9_223_372_036_854_775_808 (omega arith, lit< tt, λ h. lit≤ tt)))

-- `  -7` in a width of 4, and a number that is too long for its width
pub aligned : (right 4 (signed (negsuc 6)) ≡ 32 ∷ 32 ∷ 45 ∷ 55 ∷ []) × (right 2 (signed (pos 123)) ≡ 49 ∷ 50 ∷ 51 ∷ [])
unfolding right blanks signed sign decimal decimal_from
aligned = (refl, refl)

-- `ab` behind one used byte of three, of four, of two; more used than there is
pub pieces : (put (1 ∷ 2 ∷ 3 ∷ []) 1 (97 ∷ 98 ∷ []) ≡ (3, 1 ∷ 97 ∷ 98 ∷ [])) × (put (1 ∷ 2 ∷ 3 ∷ 4 ∷ []) 1 (97 ∷ 98 ∷ []) ≡ (3, 1 ∷ 97 ∷ 98 ∷ 4 ∷ []))
    × (put (1 ∷ 2 ∷ []) 1 (97 ∷ 98 ∷ []) ≡ (2, 1 ∷ 97 ∷ [])) × (put (1 ∷ 2 ∷ []) 5 (97 ∷ 98 ∷ []) ≡ (2, 1 ∷ 2 ∷ []))
unfolding put front
pieces = (refl, refl, refl, refl)
