-- Numbers as text, in ASCII, and the line of a refusal.
use Rattle.std.specs.Prelude.{cond, List, [], ◌∷◌, ◌++◌, ℕ, zero, suc, ◌+◌, ◌-◌, ◌/◌, ◌%◌, ltb, ℤ, pos, negsuc, nat_abs, length, replicate}

-- the digits of all but the last place, unless that is 0; then the last digit. A number has fewer places than the fuel.
unfoldable pub decimal_from : ℕ → ℕ → List ℕ
decimal_from zero n = []
decimal_from (suc fuel) n = cond (ltb n 10) [] (decimal_from fuel (n / 10)) ++ ((48 + n % 10) ∷ [])

-- the decimal digits, the fewest that write n; 0 is one digit
unfoldable pub decimal : ℕ → List ℕ
decimal n = decimal_from (suc n) n

-- a minus sign before a negative number
unfoldable pub sign : ℤ → List ℕ
sign (pos n) = []
sign (negsuc n) = 45 ∷ []

unfoldable pub signed : ℤ → List ℕ
signed z = sign z ++ decimal (nat_abs z)

unfoldable pub blanks : ℕ → List ℕ
blanks n = replicate n 32

-- blanks in front, up to a width
unfoldable pub right : ℕ → List ℕ → List ℕ
right width text = blanks (width - length text) ++ text

-- the line `REFUSED k AT p`
unfoldable pub refusal : ℕ → ℕ → List ℕ
refusal number place = (82 ∷ 69 ∷ 70 ∷ 85 ∷ 83 ∷ 69 ∷ 68 ∷ 32 ∷ []) ++ decimal number ++ (32 ∷ 65 ∷ 84 ∷ 32 ∷ []) ++ decimal place ++ (10 ∷ [])
