-- The laws of packing, over any base: what a product by a natural number is in parts, the order of keys, and what comes out of a key.
use mathlib.Core.Path.{◌≡◌, refl, ap, ◌∙◌}
use mathlib.Core.Logic.{dite}
use Prim.Native.Nat.{ℕ, suc, ◌+◌, ◌*◌, ◌%◌, ◌≤◌, ◌<◌}
use native.Mathlib.Nat.{mul-le-mul_right, add-mul, mul_assoc, zero-mul}
use native.Mathlib.Decide.{dec_lt}
use native.Mathlib.Omega.{arith}
use lib.Arith.{digits_lt, digits_div, digits_mod}
use lib.IntN.{ℤ, pos, negsuc, ◌+ℤ◌, ◌-ℤ◌, ◌*ℤ◌}
use lib.Signed.{◌≤ℤ◌}
use Rattle.lines.proofs.Signed.{P, N, signed, plus_parts, minus_parts, neg_parts}
use Rattle.keyed.specs.Keys.{pack, value_of, column_of, row_of, less_prices}

-- ---- products

-- a product is the difference of the products of the parts
pub times_parts : (x : ℤ) (k : ℕ) → P (x *ℤ pos k) + N x * k ≡ P x * k + N (x *ℤ pos k)
times_parts (pos m) k = omega (arith, zero-mul k)
times_parts (negsuc m) k = omega (arith, zero-mul k, neg_parts (pos (suc m * k)))

-- two numbers that add up to a third do so times k
pub plus_times : (x y : ℤ) (k : ℕ) → (x +ℤ y) *ℤ pos k ≡ x *ℤ pos k +ℤ y *ℤ pos k
plus_times x y k =
    let e : (P (x +ℤ y) + (N x + N y)) * k ≡ (P x + P y + N (x +ℤ y)) * k = ap (λ a. a * k) (plus_parts x y) in
    let f = simp add-mul at e in
    omega (signed, f, times_parts x k, times_parts y k, times_parts (x +ℤ y) k, plus_parts (x *ℤ pos k) (y *ℤ pos k))

-- ---- digits

-- the leading digits decide
pub digits_le : (M a b e f : ℕ) → f < M → a * M + e ≤ b * M + f → a ≤ b
digits_le M a b e f hf l = dite (dec_lt b a) (λ h. absurd (omega (arith, mul-le-mul_right M h))) (λ h. omega arith)

module _ (B : ℕ) where
  pub pack_pos : (x c r : ℕ) → pack B (pos x) c r ≡ pos (x * (B * B) + (c * B + r))
  unfolding pack
  pack_pos x c r = refl

  -- a key is not above another: so is its value; where the values are equal, its column; where these are, its row
  module _ (x y c d r s : ℕ) (hc : c < B) (hd : d < B) (hr : r < B) (hs : s < B) (le : pack B (pos x) c r ≤ℤ pack B (pos y) d s) where
    flat : x * (B * B) + (c * B + r) ≤ y * (B * B) + (d * B + s)
    flat = let l = rw (pack_pos x c r, pack_pos y d s) at le in omega signed

    pub pack_value : x ≤ y
    pack_value = digits_le (B * B) x y (c * B + r) (d * B + s) (digits_lt hd hs) flat

    pub pack_column : x ≡ y → c ≤ d
    pack_column e = digits_le B c d r s hs (omega (arith, flat, ap (λ a. a * (B * B)) e))

    pub pack_row : x ≡ y → c ≡ d → r ≤ s
    pack_row e f = omega (arith, flat, ap (λ a. a * (B * B)) e, ap (λ a. a * B) f)

  -- what comes out of a key
  module _ (x c r : ℕ) (hc : c < B) (hr : r < B) where
    pub value_out : value_of B (pack B (pos x) c r) ≡ pos x
    unfolding value_of
    value_out = rw (pack_pos x c r) (ap pos (digits_div x (digits_lt hc hr)))

    nested : x * (B * B) + (c * B + r) ≡ (x * B + c) * B + r
    nested = omega (arith, add-mul (x * B) c B, mul_assoc x B B)

    pub column_out : column_of B (pack B (pos x) c r) ≡ c
    unfolding column_of
    column_out = rw (pack_pos x c r, nested) (ap (λ a. a % B) (digits_div (x * B + c) hr) ∙ digits_mod x hc)

    pub row_out : row_of B (pack B (pos x) c r) ≡ r
    unfolding row_of
    row_out = rw (pack_pos x c r, nested) (digits_mod (x * B + c) hr)

  -- the prices of a cell taken off the key of its cost: the key of its working value and of what has risen
  pub prices_off : (k p q w d : ℤ) (c r : ℕ) → k ≡ p +ℤ q +ℤ w → less_prices B (pack B k c r) p (q -ℤ d) ≡ pack B (w +ℤ d) c r
  unfolding less_prices pack
  prices_off k p q w d c r e =
      let S = p +ℤ (q -ℤ d) in
      let W = w +ℤ d in
      let whole : k ≡ W +ℤ S = omega (signed, e, plus_parts (p +ℤ q) w, plus_parts p q, plus_parts p (q -ℤ d), minus_parts q d, plus_parts w d, plus_parts W S) in
      let K = pos (B * B) in
      let E = pos (c * B + r) in
      let t : k *ℤ K ≡ W *ℤ K +ℤ S *ℤ K = ap (λ a. a *ℤ K) whole ∙ plus_times W S (B * B) in
      omega (signed, t, plus_parts (W *ℤ K) (S *ℤ K), plus_parts (k *ℤ K) E, minus_parts (k *ℤ K +ℤ E) (S *ℤ K), plus_parts (W *ℤ K) E)
