-- What a search for the least value finds.
use mathlib.Core.Path.{◌≡◌, refl}
use mathlib.Core.Logic.{dite}
use mathlib.Core.Bool.{Bool, true, false, cond, ◌&&◌}
use Prim.Native.Nat.{ℕ, zero, suc, ◌≤◌, ◌<◌}
use native.Mathlib.Decide.{ℕ_discrete}
use native.Mathlib.Omega.{arith}
use lib.Dec.{T, ltb, ltb→lt, nltb→le}
use lib.IntN.{ℤ}
use lib.Signed.{lt_z, ◌≤ℤ◌, ≤ℤ_refl}
use Rattle.lines.specs.First.{least_on, least}
use Rattle.lines.proofs.Signed.{signed}

-- v is below n and passes, and f is nowhere less among those that pass; or v is n, and none passes
pub record Least (b : ℕ → Bool) (f : ℕ → ℤ) (n v : ℕ) : Type 0 where
  pub most : v ≤ n
  pub hit : v < n → T (b v)
  pub low : (i : ℕ) → i < n → T (b i) → (v < n) × (f v ≤ℤ f i)

pub least_is : (b : ℕ → Bool) (f : ℕ → ℤ) (n : ℕ) → Least b f n (least b f n)
unfolding least least_on
least_is b f zero = record { most = omega arith; hit = λ l. absurd (omega arith); low = λ i l. absurd (omega arith) }
least_is b f (suc n) = go (b n) (ltb (least b f n) n) (lt_z (f n) (f (least b f n))) refl refl refl (least_is b f n)
  where
    v : ℕ
    v = least b f n

    -- what holds of those before n, and of n
    upto : (w : ℕ) → (T (b n) → (w < suc n) × (f w ≤ℤ f n)) → ((i : ℕ) → i < n → T (b i) → (w < suc n) × (f w ≤ℤ f i))
        → (i : ℕ) → i < suc n → T (b i) → (w < suc n) × (f w ≤ℤ f i)
    upto w here below i l = dite (ℕ_discrete i n) (λ e. rw e here) (λ ne. below i (omega arith))

    go : (x y z : Bool) → b n ≡ x → ltb v n ≡ y → lt_z (f n) (f v) ≡ z → Least b f n v → Least b f (suc n) (cond y (cond (x && z) n v) (cond x n (suc n)))
    go true true true ex ey ez g =
        record { most = omega arith; hit = λ h. rw ex tt; low = upto n (λ t. (omega arith, ≤ℤ_refl (f n))) (λ i hi t. (omega arith, let q = (g.low i hi t).1 in omega signed)) }
    go true true false ex ey ez g =
        let q : v < n = ltb→lt _ _ (rw ey tt) in
        record { most = omega arith; hit = λ h. g.hit q; low = upto v (λ t. (omega arith, omega signed)) (λ i hi t. (omega arith, (g.low i hi t).1)) }
    go true false z ex ey ez g =
        let q : n ≤ v = nltb→le _ _ (rw ey tt) in
        record { most = omega arith; hit = λ h. rw ex tt; low = upto n (λ t. (omega arith, ≤ℤ_refl (f n))) (λ i hi t. absurd (omega (arith, (g.low i hi t).0))) }
    go false true z ex ey ez g =
        let q : v < n = ltb→lt _ _ (rw ey tt) in
        record { most = omega arith; hit = λ h. g.hit q; low = upto v (λ t. absurd (rw ex at t)) (λ i hi t. (omega arith, (g.low i hi t).1)) }
    go false false z ex ey ez g =
        let q : n ≤ v = nltb→le _ _ (rw ey tt) in
        record { most = omega arith; hit = λ h. absurd (omega arith); low = upto (suc n) (λ t. absurd (rw ex at t)) (λ i hi t. absurd (omega (arith, (g.low i hi t).0))) }

-- tests and values that agree, the values where the tests pass
pub least_ext : (b c : ℕ → Bool) (f g : ℕ → ℤ) (n : ℕ) → ((i : ℕ) → i < n → b i ≡ c i) → ((i : ℕ) → i < n → T (b i) → f i ≡ g i) → least b f n ≡ least c g n
unfolding least least_on
least_ext b c f g zero e d = refl
least_ext b c f g (suc n) e d =
    rw (← least_ext b c f g n (λ i h. e i (omega arith)) (λ i h. d i (omega arith)), ← e n (omega arith)) (go (b n) (ltb (least b f n) n) refl refl)
  where
    v : ℕ
    v = least b f n

    go : (x y : Bool) → b n ≡ x → ltb v n ≡ y
        → cond y (cond (x && lt_z (f n) (f v)) n v) (cond x n (suc n)) ≡ cond y (cond (x && lt_z (g n) (g v)) n v) (cond x n (suc n))
    go true true ex ey =
        let h : v < n = ltb→lt _ _ (rw ey tt) in
        rw (d n (omega arith) (rw ex tt), d v (omega arith) ((least_is b f n).hit h))
    go true false ex ey = refl
    go false y ex ey = refl
