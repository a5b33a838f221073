-- Whether a number below n passes a test, as the code asks it.
use mathlib.Core.Path.{◌≡◌, refl}
use mathlib.Core.Bool.{Bool, true, false, ◌||◌}
use mathlib.Core.Logic.{◌⊎◌, inl, inr}
use Prim.Native.Nat.{ℕ, zero, suc, ◌+◌, ◌<◌}
use native.Mathlib.Omega.{arith}
use lib.Dec.{T}
use Rattle.std.specs.List.{list_any, range_with_len}
use Rattle.lines.specs.First.{any}
use Rattle.lines.proofs.Tests.{T_same}
use Rattle.lines.proofs.Firsts.{any_yes, any_is}

either : (x y : Bool) → T x ⊎ T y → T (x || y)
either true y t = tt
either false y (inl t) = absurd t
either false y (inr t) = t

listed_yes : (b : ℕ → Bool) (a n i : ℕ) → i < n → T (b (a + i)) → T (list_any b (range_with_len a n))
listed_yes b a zero i h t = absurd (omega arith)
listed_yes b a (suc n) zero h t = let q : a + 0 ≡ a = omega arith in either (b a) _ (inl (rw q at t))
listed_yes b a (suc n) (suc i) h t =
    let q : a + suc i ≡ (a + 1) + i = omega arith in
    either (b a) _ (inr (listed_yes b (a + 1) n i (omega arith) (rw q at t)))

listed_is : (b : ℕ → Bool) (a n : ℕ) → T (list_any b (range_with_len a n)) → (i : ℕ) × (i < n) × T (b (a + i))
listed_is b a zero t = absurd t
listed_is b a (suc n) t = go (b a) refl (listed_is b (a + 1) n) t
  where
    go : (x : Bool) → b a ≡ x → (T (list_any b (range_with_len (a + 1) n)) → (i : ℕ) × (i < n) × T (b ((a + 1) + i)))
        → T (x || list_any b (range_with_len (a + 1) n)) → (i : ℕ) × (i < suc n) × T (b (a + i))
    go true e behind t = let q : a + 0 ≡ a = omega arith in (0, omega arith, rw (q, e) tt)
    go false e behind t =
        let rest = behind t in
        let q : a + suc rest.0 ≡ (a + 1) + rest.0 = omega arith in
        (suc rest.0, omega (arith, rest.1), rw q rest.2)

pub any_listed : (b : ℕ → Bool) (n : ℕ) → list_any b (range_with_len 0 n) ≡ any b n
any_listed b n =
    T_same (list_any b (range_with_len 0 n)) (any b n)
    (λ t. let hit = listed_is b 0 n t in let q : 0 + hit.0 ≡ hit.0 = omega arith in any_yes b n hit.0 hit.1 (rw q at hit.2))
    (λ t. let hit = any_is b n t in let q : 0 + hit.0 ≡ hit.0 = omega arith in listed_yes b 0 n hit.0 hit.1 (rw q hit.2))
