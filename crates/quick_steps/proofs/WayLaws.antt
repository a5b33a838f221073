-- The ways of steps 4 and 6 from the parts that the code holds.
use mathlib.Core.Path.{◌≡◌, refl, sym, ap₂, ◌∙◌}
use mathlib.Core.Bool.{Bool, true, false, not, ◌&&◌}
use mathlib.Core.List.{List}
use Prim.Native.Nat.{ℕ, ◌≤◌, ◌<◌, ◌^◌}
use lib.IntN.{ℤ, pos, ◌-ℤ◌}
use lib.ListN.{get_or, set}
use lib.Signed.{mag, lt_z}
use mir.Syntax.{w64}
use mir.Val.{SFits, to_z, of_z}
use Rattle.lines.specs.Bounds.{Within}
use Rattle.lines.specs.Sets.{with}
use Rattle.lines.proofs.Signed.{signed, minus_parts, neg_parts}
use Rattle.steps.specs.Steps.{covering, reaching}
use Rattle.ground.specs.View.{view}
use Rattle.ground.proofs.Wide.{back64}
use Rattle.std.specs.Int.{int_min}
use Rattle.keyed.specs.Keys.{limit, value_of, row_of, column_of, names_zero, lowered_key, least_key}
use Rattle.keyed.specs.Opening.{term_at, Opens}
use Rattle.quick_steps.specs.Ways.{Primed, reaches, covers}
use Rattle.quick_steps.specs.declared.State.{State}

-- ---- what it says that a key names a zero, or that it does not

module _ (B : ℕ) (best risen : ℤ) where
  pub zero_near : names_zero B best risen ≡ true → lt_z best limit ≡ true
  unfolding names_zero
  zero_near e = go (lt_z best limit) (lt_z risen (value_of B best)) e
    where
      go : (x y : Bool) → (x && not y) ≡ true → x ≡ true
      go true y e = refl
      go false y e = e

  pub zero_below : names_zero B best risen ≡ true → lt_z risen (value_of B best) ≡ false
  unfolding names_zero
  zero_below e = go (lt_z best limit) (lt_z risen (value_of B best)) e
    where
      go : (x y : Bool) → (x && not y) ≡ true → y ≡ false
      go x false e = refl
      go true true e = sym e
      go false true e = sym e

  pub zero_above : names_zero B best risen ≡ false → lt_z best limit ≡ true → lt_z risen (value_of B best) ≡ true
  unfolding names_zero
  zero_above e near = go (lt_z best limit) (lt_z risen (value_of B best)) e near
    where
      go : (x y : Bool) → (x && not y) ≡ false → x ≡ true → y ≡ true
      go x true e n = refl
      go true false e n = sym e
      go false false e n = n

-- ---- what the keys tell, told by keys that are the same for the n rows

pub opens_same : {n rows columns : ℕ} (keys row_prices column_prices key key' : List ℤ) {best : ℤ} → ((i : ℕ) → i < n → get_or key' i (pos 0) ≡ get_or key i (pos 0))
    → Opens n rows columns keys row_prices column_prices key best → Opens n rows columns keys row_prices column_prices key' best
opens_same keys row_prices column_prices key key' same opens ok working told shut =
    let o = opens ok working told shut in (
      record {
        low = λ i j hi hj here. rw (same i hi) (o.0.low i j hi hj here);
        hit = λ i hi bare near. rw (same i hi) (o.0.hit i hi bare (rw (same i hi) at near));
      },
      o.1,
    )

-- ---- a column's price less the rise

pub bits_within : (L : ℕ) (z : ℤ) → mag z < 2 ^ 63 → Within L z → Within L (to_z w64 (of_z w64 z))
bits_within L z h w = rw (back64 z h) w

-- two numbers far from the limits: their difference fits, and is far from them too
module _ (x y : ℤ) (wx : Within 1099511627776 x) (wy : Within 1099511627776 y) where
  pub less_fits : SFits w64 (x -ℤ y)
  less_fits = omega (signed, minus_parts x y, wx.above, wx.below, wy.above, wy.below, neg_parts (pos 1099511627776))

  pub less_within : (r : ℤ) → mag r < 2 ^ 63 → r ≡ x -ℤ y → Within 140737488355328 (to_z w64 (of_z w64 r))
  less_within r h e = rw (back64 r h, e) (record {
    above = omega (signed, minus_parts x y, wx.above, wy.below, neg_parts (pos 1099511627776), neg_parts (pos 140737488355328));
    below = omega (signed, minus_parts x y, wx.below, wy.above, neg_parts (pos 1099511627776));
  })

-- read back from the bits that hold them
pub price_told : (p q x : ℤ) → mag p < 2 ^ 63 → mag q < 2 ^ 63 → mag x < 2 ^ 63 → x ≡ to_z w64 (of_z w64 p) -ℤ to_z w64 (of_z w64 q) → to_z w64 (of_z w64 x) ≡ p -ℤ q
price_told p q x hp hq hx e = back64 x hx ∙ e ∙ ap₂ ◌-ℤ◌ (back64 p hp) (back64 q hq)

-- ---- step 4's ways: the code's row and column are those that the key names

module _ (n : ℕ) (s : State) (keys row_prices column_prices : List ℤ) (star prime : List ℕ) (key : List ℤ) (row column : ℕ)
    (er : row ≡ row_of 64 s.best) (ec : column ≡ column_of 64 s.best) (zero : names_zero 64 s.best s.risen ≡ true) where
  pub told_reaches : {r : State} → n ≤ get_or star row 0 → view r.run ≡ reaching row column (view s.run)
      → Primed n s keys row_prices column_prices star prime key r (set prime row column) key
  told_reaches h e = rw (er, ec) (reaches zero (rw er at h) (rw (er, ec) at e) refl refl)

  pub told_covers : {r : State} {key' : List ℤ} (rows : ℕ) (price : ℤ) → get_or star row 0 < n
      → view r.run ≡ covering row (get_or star row 0) (view s.run) → r.risen ≡ s.risen
      → rows ≡ with s.run.rows row → price ≡ get_or column_prices (get_or star row 0) (pos 0) -ℤ s.risen
      → r.best ≡ least_key rows (λ i. int_min (get_or key i (pos 0)) (term_at n keys row_prices (get_or star row 0) price i)) n
      → ((i : ℕ) → i < n → get_or key' i (pos 0) ≡ lowered_key rows (term_at n keys row_prices (get_or star row 0) price) i (get_or key i (pos 0)))
      → Primed n s keys row_prices column_prices star prime key r (set prime row column) key'
  told_covers rows price h e1 e2 e3 e4 e5 e6 =
      rw (er, ec) (covers zero (rw er at h) (rw er at e1) e2 (rw (e3, e4, er) at e5) refl (λ i hi. rw (e3, e4, er) at (e6 i hi)))
