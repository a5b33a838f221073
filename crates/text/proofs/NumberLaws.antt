-- Numbers as text: the fewest digits are `decimal`; the text of a signed number, by its sign.
use mathlib.Core.Path.{◌≡◌, refl, sym, ap, subst, ◌∙◌}
use mathlib.Core.Bool.{Bool, true, false, cond}
use mathlib.Core.List.{[], ◌∷◌, ◌++◌}
use Prim.Native.Nat.{ℕ, zero, suc, ◌+◌, ◌-◌, ◌/◌, ◌%◌, ◌≤◌, ◌<◌, ◌^◌}
use native.Mathlib.Nat.{pow-suc}
use native.Mathlib.Omega.{arith}
use borrow.Author.Tests.{lt-ltb, le-ltb, ltb-true, ltb-false}
use lib.Dec.{T, ltb}
use lib.IntN.{ℤ, pos, negsuc, nat_abs}
use lib.ListN.{length, take, length-append, length-replicate}
use lib.Signed.{lt_z}
use Rattle.std.proofs.lemmas.List.{take-replicate}
use mir.Syntax.{w64}
use mir.Val.{SFits, to_z, of_z}
use mir.Facts.{to_z-of_z}
use Rattle.io.specs.Digits.{last_digits, IsDigitCount}
use Rattle.text.specs.Numbers.{decimal_from, decimal, sign, signed as signed-text, blanks}

-- ---- decimal digits

power_pos : (k : ℕ) → 0 < 10 ^ k
power_pos zero = omega arith
power_pos (suc k) = omega (arith, power_pos k, pow-suc 10 k)

-- all but the last place of a number of at least k + 2 places
rest_high : (k n : ℕ) → 10 ^ suc k ≤ n → 10 ^ (suc k - 1) ≤ n / 10
rest_high k n h = let q : suc k - 1 ≡ k = omega arith in rw q (omega (arith, pow-suc 10 k))

digits_from : (k n fuel : ℕ) → n < fuel → IsDigitCount 10 1 n k → last_digits 10 k n ≡ decimal_from fuel n
unfolding decimal_from
digits_from zero n fuel h f = absurd (omega (arith, f.0))
digits_from (suc zero) n zero h f = absurd (omega arith)
digits_from (suc zero) n (suc fuel) h f = rw (lt-ltb n 10 f.1, lt-ltb (n % 10) 10 (omega arith))
digits_from (suc (suc k)) n zero h f = absurd (omega arith)
digits_from (suc (suc k)) n (suc fuel) h f =
    let q : suc (suc k) - 1 ≡ suc k = omega arith in
    let high : 10 ^ suc k ≤ n = rw q at (f.2 (omega arith)) in
    let many : 10 ≤ n = omega (arith, pow-suc 10 k, power_pos k) in
    let rest : IsDigitCount 10 1 (n / 10) (suc k) = (omega arith, omega (arith, f.1, pow-suc 10 (suc k)), λ l. rest_high k n high) in
    rw (le-ltb n 10 many, lt-ltb (n % 10) 10 (omega arith), digits_from (suc k) (n / 10) fuel (omega arith) rest)

pub digits_decimal : (k n : ℕ) → IsDigitCount 10 1 n k → last_digits 10 k n ≡ decimal n
unfolding decimal
digits_decimal k n f = digits_from k n (suc n) (omega arith) f

length_digits : (k n : ℕ) → length (last_digits 10 k n) ≡ k
length_digits zero n = refl
length_digits (suc k) n = length-append (last_digits 10 k (n / 10)) _ ∙ rw (length_digits k (n / 10)) (omega arith)

pub decimal_length : (k n : ℕ) → IsDigitCount 10 1 n k → k ≡ length (decimal n)
decimal_length k n f = sym (length_digits k n) ∙ ap length (digits_decimal k n f)

short_from : (fuel m n : ℕ) → n < 10 ^ suc m → length (decimal_from fuel n) ≤ suc m
unfolding decimal_from
short_from zero m n h = omega arith
short_from (suc fuel) m n h =
    rw (length-append (cond (ltb n 10) [] (decimal_from fuel (n / 10))) _) (go m h (λ k l. short_from fuel k (n / 10) l) (ltb n 10) refl)
  where
    go : (m : ℕ) → n < 10 ^ suc m → ((k : ℕ) → n / 10 < 10 ^ suc k → length (decimal_from fuel (n / 10)) ≤ suc k)
        → (b : Bool) → ltb n 10 ≡ b → length (cond b [] (decimal_from fuel (n / 10))) + 1 ≤ suc m
    go m h rest true e = omega arith
    go zero h rest false e = absurd (omega (arith, ltb-false n 10 e))
    go (suc m) h rest false e = omega (arith, rest m (omega (arith, pow-suc 10 (suc m))))

-- a number below 10 ^ (m + 1) takes at most m + 1 digits
pub decimal_short : (m n : ℕ) → n < 10 ^ suc m → length (decimal n) ≤ suc m
unfolding decimal
decimal_short m n h = short_from (suc n) m n h

-- ---- blanks

pub length_blanks : (n : ℕ) → length (blanks n) ≡ n
unfolding blanks
length_blanks n = length-replicate n 32

pub take_blanks : (k n : ℕ) → k ≤ n → take k (blanks n) ≡ blanks k
unfolding blanks
take_blanks k n h = take-replicate k n 32 h

-- ---- the text of a signed number, by its sign

below : (z : ℤ) → lt_z z (pos 0) ≡ true → signed-text z ≡ (45 ∷ []) ++ decimal (nat_abs z)
unfolding signed-text sign
below (pos n) h = absurd (omega (arith, ltb-true n 0 h))
below (negsuc n) h = refl

above : (z : ℤ) → lt_z z (pos 0) ≡ false → signed-text z ≡ decimal (nat_abs z)
unfolding signed-text sign
above (pos n) h = refl
above (negsuc n) h = absurd (subst T h tt)

-- what a local of 64 bits gives back
abbrev kept : ℤ → ℤ
kept z = to_z w64 (of_z w64 z)

module _ (z : ℤ) (f : SFits w64 z) (size : ℕ) (m : size ≡ nat_abs (kept z)) where
  pub signed_below : lt_z (kept z) (pos 0) ≡ true → signed-text z ≡ (45 ∷ []) ++ decimal size
  signed_below h = rw (m, to_z-of_z f) (below z (rw (to_z-of_z f) at h))

  pub signed_above : lt_z (kept z) (pos 0) ≡ false → signed-text z ≡ decimal size
  signed_above h = rw (m, to_z-of_z f) (above z (rw (to_z-of_z f) at h))
