-- The search for the least value as the code makes it: turn by turn, and what its answer says of the search for its place.
use mathlib.Core.Path.{◌≡◌, refl, sym, ◌∙◌}
use mathlib.Core.Bool.{Bool, true, false, cond, ◌&&◌}
use Prim.Native.Nat.{ℕ, zero, suc, ◌+◌, ◌≤◌, ◌<◌}
use native.Mathlib.Numerals.{add-one}
use native.Mathlib.Omega.{arith}
use borrow.Author.Tests.{lt-ltb, le-ltb, ltb-true, ltb-false}
use lib.Dec.{T, ltb}
use lib.IntN.{ℤ}
use lib.Signed.{lt_z}
use Rattle.lines.specs.First.{any, least_on, least}
use Rattle.lines.proofs.Firsts.{any_is}
use Rattle.lines.proofs.Leasts.{least_is}
use Rattle.steps.specs.Steps.{row_price}
use Rattle.ground.specs.Least.{lesser_of, least_from, value_or_zero}
use Rattle.std.specs.Prelude.{Option, Some, None}

-- a turn at an index that passes, and at one that does not
module _ (best : Option ℤ) (b : ℕ → Bool) (f : ℕ → ℤ) (i : ℕ) (now next : Option ℤ) where
  pub from_take : (z : ℤ) → now ≡ least_from best b f i → b i ≡ true → next ≡ lesser_of now z → z ≡ f i → next ≡ least_from best b f (i + 1)
  unfolding least_from
  from_take z e y k v = k ∙ rw (add-one, y, e, v)

  pub from_skip : now ≡ least_from best b f i → b i ≡ false → next ≡ now → next ≡ least_from best b f (i + 1)
  unfolding least_from
  from_skip e y k = k ∙ rw (add-one, y, e)

-- what holds of each value holds of the least
pub lesser_holds : (Q : ℤ → Type 0) (now next : Option ℤ) (y : ℤ) → next ≡ lesser_of now y → Q y → ((z : ℤ) → now ≡ Some z → Q z) → (z : ℤ) → next ≡ Some z → Q z
unfolding lesser_of
lesser_holds Q None next y k q f z e = let p : y ≡ z = cc in rw p at q
lesser_holds Q (Some b) next y k q f z e = go (lt_z y b) (sym k ∙ e)
  where
    go : (t : Bool) → cond t (Some y) (Some b) ≡ Some z → Q z
    go true d = let p : y ≡ z = cc in rw p at q
    go false d = f z d

-- ---- what the answer says of the search for the place

place_value : (b : ℕ → Bool) (f : ℕ → ℤ) (n : ℕ) → least_from None b f n ≡ cond (ltb (least b f n) n) (Some (f (least b f n))) None
unfolding least_from lesser_of least least_on
place_value b f zero = refl
place_value b f (suc n) = rw (place_value b f n) (go (b n) (ltb v n) (lt_z (f n) (f v)) refl refl)
  where
    v : ℕ
    v = least b f n

    value : ℕ → Option ℤ
    value u = cond (ltb u (suc n)) (Some (f u)) None

    some : (u : ℕ) → u < suc n → Some (f u) ≡ value u
    some u h = rw (lt-ltb u (suc n) h)

    go : (x y z : Bool) → ltb v n ≡ y → lt_z (f n) (f v) ≡ z
        → cond x (lesser_of (cond y (Some (f v)) None) (f n)) (cond y (Some (f v)) None) ≡ value (cond y (cond (x && z) n v) (cond x n (suc n)))
    go true true true e k = rw k (some n (omega arith))
    go true true false e k = rw k (some v (omega (arith, ltb-true v n e)))
    go true false z e k = some n (omega arith)
    go false true z e k = some v (omega (arith, ltb-true v n e))
    go false false z e k = rw (le-ltb (suc n) (suc n) (omega arith))

-- a value comes from the place that the definition searches for
pub value_found : (b : ℕ → Bool) (f : ℕ → ℤ) (n : ℕ) (z : ℤ) → least_from None b f n ≡ Some z → (least b f n < n) × (z ≡ f (least b f n))
value_found b f n z e = go (ltb (least b f n) n) refl (sym e ∙ place_value b f n)
  where
    go : (y : Bool) → ltb (least b f n) n ≡ y → Some z ≡ cond y (Some (f (least b f n))) None → (least b f n < n) × (z ≡ f (least b f n))
    go true k q = (ltb-true _ n k, cc)
    go false k q = let o : ◌≡◌ {A = ℕ} 0 1 = cc in absurd (omega arith)

pub value_none : (b : ℕ → Bool) (f : ℕ → ℤ) (n : ℕ) → least_from None b f n ≡ None → n ≤ least b f n
value_none b f n e = go (ltb (least b f n) n) refl (sym e ∙ place_value b f n)
  where
    go : (y : Bool) → ltb (least b f n) n ≡ y → None ≡ cond y (Some (f (least b f n))) None → n ≤ least b f n
    go true k q = let o : ◌≡◌ {A = ℕ} 0 1 = cc in absurd (omega arith)
    go false k q = ltb-false _ n k

-- where one passes, there is an answer
pub value_any : (b : ℕ → Bool) (f : ℕ → ℤ) (n : ℕ) → T (any b n) → least_from None b f n ≡ None → ⊥
value_any b f n t e =
    let a = any_is b n t in
    let h = value_none b f n e in
    omega (arith, ((least_is b f n).low a.0 a.1 a.2).0)

-- the price of a row that allows a cell
pub priced : (n : ℕ) (ok : ℕ → ℕ → Bool) (cost : ℕ → ℕ → ℤ) (i : ℕ) → T (any (ok i) n) → value_or_zero (least_from None (ok i) (cost i) n) ≡ row_price n ok cost i
unfolding value_or_zero row_price
priced n ok cost i t = go (least_from None (ok i) (cost i) n) refl
  where
    go : (best : Option ℤ) → least_from None (ok i) (cost i) n ≡ best → value_or_zero best ≡ cost i (least (ok i) (cost i) n)
    go (Some z) e = (value_found _ _ n z e).1
    go None e = absurd (value_any _ _ n t e)
