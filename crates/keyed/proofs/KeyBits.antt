-- Keys in the code: a local holds bits of 64, and each sum, product and cast fits them.
use mathlib.Core.Path.{◌≡◌, refl, ap, ◌∙◌}
use Prim.Native.Nat.{ℕ, ◌/◌, ◌<◌, ◌^◌}
use native.Mathlib.Omega.{arith}
use lib.Dec.{T}
use lib.IntN.{ℤ, pos, negsuc, nat_abs, ◌+ℤ◌, ◌-ℤ◌, ◌*ℤ◌}
use lib.Signed.{◌≤ℤ◌, non_neg, mag}
use mir.Syntax.{w64}
use mir.Val.{Fits, SFits, to_z, of_z}
use mir.Facts.{to_z-of_z, to_z_pos}
use Rattle.lines.specs.Bounds.{Within}
use Rattle.lines.proofs.Signed.{P, signed, plus_parts, minus_parts, neg_parts, size}
use Rattle.keyed.specs.Keys.{less_prices}
use Rattle.keyed.proofs.Packs.{times_parts}

pub small32 : (z : ℤ) → mag z < 2 ^ 31 → Within 2147483648 z
small32 z h = record { above = omega (signed, neg_parts (pos 2147483648), size z); below = omega (signed, size z) }

pub wider : {z : ℤ} → Within 1099511627776 z → Within 140737488355328 z
wider {z} w = record {
  above = omega (signed, w.above, neg_parts (pos 1099511627776), neg_parts (pos 140737488355328));
  below = omega (signed, w.below);
}

-- ---- a key that is not negative, as an unsigned number

module _ (z : ℤ) (fits : SFits w64 z) (up : pos 0 ≤ℤ z) where
  plain : (y : ℤ) → SFits w64 y → pos 0 ≤ℤ y → T (non_neg y) × Fits w64 (nat_abs y)
  plain (pos n) f h = let s = f.sfits in (tt, record { fits = omega arith })
  plain (negsuc n) f h = absurd h.le

  natural : (y : ℤ) → pos 0 ≤ℤ y → nat_abs y ≡ P y
  natural (pos n) h = refl
  natural (negsuc n) h = absurd h.le

  pub unsigned_fits : T (non_neg (to_z w64 (of_z w64 z))) × Fits w64 (nat_abs (to_z w64 (of_z w64 z)))
  unsigned_fits = rw (to_z-of_z fits) (plain z fits up)

  pub unsigned_is : nat_abs (to_z w64 (of_z w64 z)) ≡ P z
  unsigned_is = rw (to_z-of_z fits) (natural z up)

  part_small : (y : ℤ) → SFits w64 y → P y < 2 ^ 63
  part_small (pos n) f = f.sfits
  part_small (negsuc n) f = omega arith

  pub value_small : P z / 4096 < 2 ^ 63
  value_small = let h = part_small z fits in omega arith

  pub value_fits : SFits w64 (pos (nat_abs (to_z w64 (of_z w64 z)) / 4096))
  value_fits = rw unsigned_is (record { sfits = value_small })

-- ---- packing

-- a value and what stands below it, a place of 12 bits
module _ (x : ℤ) (low : ℕ) (fits : SFits w64 x) (small : Within 2147483648 x) (few : low < 4096) where
  pub scaled_fits : SFits w64 (to_z w64 (of_z w64 x) *ℤ pos 4096)
  scaled_fits = rw (to_z-of_z fits) (omega (signed, times_parts x 4096, small.above, small.below, neg_parts (pos 2147483648)))

  low_is : to_z w64 low ≡ pos low
  low_is = to_z_pos w64 (omega arith)

  scaled_is : to_z w64 (of_z w64 (to_z w64 (of_z w64 x) *ℤ pos 4096)) ≡ x *ℤ pos 4096
  scaled_is = to_z-of_z scaled_fits ∙ ap (λ y. y *ℤ pos 4096) (to_z-of_z fits)

  pub packed_fits : SFits w64 (to_z w64 (of_z w64 (to_z w64 (of_z w64 x) *ℤ pos 4096)) +ℤ to_z w64 low)
  packed_fits = rw (scaled_is, low_is) (omega (signed, times_parts x 4096, plus_parts (x *ℤ pos 4096) (pos low), small.above, small.below, neg_parts (pos 2147483648)))

  pub packed_is : to_z w64 (of_z w64 (to_z w64 (of_z w64 (to_z w64 (of_z w64 x) *ℤ pos 4096)) +ℤ to_z w64 low)) ≡ x *ℤ pos 4096 +ℤ pos low
  packed_is = to_z-of_z packed_fits ∙ rw (scaled_is, low_is)

-- ---- prices taken off

module _ (e p q : ℤ) (fe : SFits w64 e) (fp : SFits w64 p) (fq : SFits w64 q)
    (we : Within 4611686018427387904 e) (wp : Within 140737488355328 p) (wq : Within 140737488355328 q) where
  both_is : to_z w64 (of_z w64 p) +ℤ to_z w64 (of_z w64 q) ≡ p +ℤ q
  both_is = rw (to_z-of_z fp, to_z-of_z fq)

  pub both_fits : SFits w64 (to_z w64 (of_z w64 p) +ℤ to_z w64 (of_z w64 q))
  both_fits = rw both_is (omega (signed, plus_parts p q, wp.above, wp.below, wq.above, wq.below, neg_parts (pos 140737488355328)))

  sum_is : to_z w64 (of_z w64 (to_z w64 (of_z w64 p) +ℤ to_z w64 (of_z w64 q))) ≡ p +ℤ q
  sum_is = to_z-of_z both_fits ∙ both_is

  pub product_fits : SFits w64 (to_z w64 (of_z w64 (to_z w64 (of_z w64 p) +ℤ to_z w64 (of_z w64 q))) *ℤ pos 4096)
  product_fits =
      rw sum_is
      (omega (signed, times_parts (p +ℤ q) 4096, plus_parts p q, wp.above, wp.below, wq.above, wq.below, neg_parts (pos 140737488355328)))

  product_is : to_z w64 (of_z w64 (to_z w64 (of_z w64 (to_z w64 (of_z w64 p) +ℤ to_z w64 (of_z w64 q))) *ℤ pos 4096)) ≡ (p +ℤ q) *ℤ pos 4096
  product_is = to_z-of_z product_fits ∙ ap (λ y. y *ℤ pos 4096) sum_is

  pub left_fits : SFits w64 (to_z w64 (of_z w64 e) -ℤ to_z w64 (of_z w64 (to_z w64 (of_z w64 (to_z w64 (of_z w64 p) +ℤ to_z w64 (of_z w64 q))) *ℤ pos 4096)))
  left_fits =
      rw (product_is, to_z-of_z fe)
      (omega (
        signed,
        minus_parts e ((p +ℤ q) *ℤ pos 4096),
        times_parts (p +ℤ q) 4096,
        plus_parts p q,
        we.above,
        we.below,
        wp.above,
        wp.below,
        wq.above,
        wq.below,
        neg_parts (pos 140737488355328),
        neg_parts (pos 4611686018427387904),
      ))

  pub left_is : to_z w64 (of_z w64 (to_z w64 (of_z w64 e) -ℤ to_z w64 (of_z w64 (to_z w64 (of_z w64 (to_z w64 (of_z w64 p) +ℤ to_z w64 (of_z w64 q))) *ℤ pos 4096)))) ≡ less_prices 64 e p q
  unfolding less_prices
  left_is = to_z-of_z left_fits ∙ rw (product_is, to_z-of_z fe)
