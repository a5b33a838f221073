-- Tests and what they say: from a Bool to a fact, and back.
use mathlib.Core.Path.{◌≡◌, refl}
use mathlib.Core.Logic.{◌≢◌, ◌⊎◌, inl, inr}
use mathlib.Core.Bool.{Bool, true, false, not, cond, ◌&&◌, ◌||◌, true≢false, false≢true}
use Prim.Native.Nat.{ℕ}
use lib.Dec.{T, not_T, eqb, eqb→eq, eqb_refl}

pub T_or : (b : Bool) → T b ⊎ T (not b)
T_or true = inl tt
T_or false = inr tt

pub both : (x y : Bool) → T x → T y → T (x && y)
both true y t u = u
both false y t u = t

pub and_left : (x y : Bool) → T (x && y) → T x
and_left true y t = tt
and_left false y t = t

pub and_right : (x y : Bool) → T (x && y) → T y
and_right true y t = t
and_right false y t = absurd t

pub T_yes : (b : Bool) → (T (not b) → ⊥) → T b
T_yes true f = tt
T_yes false f = f tt

pub T_true : (b : Bool) → T b → b ≡ true
T_true true t = refl
T_true false t = absurd t

pub T_false : (b : Bool) → T (not b) → b ≡ false
T_false true t = absurd t
T_false false t = refl

-- tests that agree in what they say are equal
pub T_same : (a b : Bool) → (T a → T b) → (T b → T a) → a ≡ b
T_same true true f g = refl
T_same true false f g = absurd (f tt)
T_same false true f g = absurd (g tt)
T_same false false f g = refl

-- a test for equality, from the fact
pub eqb_yes : (m v : ℕ) → m ≡ v → T (eqb m v)
eqb_yes m v e = rw e (eqb_refl v)

pub eqb_no : (m v : ℕ) → m ≢ v → T (not (eqb m v))
eqb_no m v ne = not_T (eqb m v) (λ t. ne (eqb→eq m v t))

-- by the two values of a test, with the equation kept; and a test that has both
pub by_cases {ℓ} : {P : Type ℓ} (b : Bool) → (b ≡ true → P) → (b ≡ false → P) → P
by_cases true f g = f refl
by_cases false f g = g refl

pub clash {ℓ} : {P : Type ℓ} (b : Bool) → b ≡ true → b ≡ false → P
clash true y n = absurd (true≢false n)
clash false y n = absurd (false≢true y)

-- neither of two tests
pub nor : (x y : Bool) → (T (x || y) → ⊥) → (x ≡ false) × (y ≡ false)
nor true y f = absurd (f tt)
nor false true f = absurd (f tt)
nor false false f = (refl, refl)

-- ---- choices

-- what holds of both, with what the test says, holds of the choice
pub cond_ind {ℓ} : {A : Type 0} (P : A → Type ℓ) (b : Bool) (x y : A) → (T b → P x) → (T (not b) → P y) → P (cond b x y)
cond_ind P true x y f g = f tt
cond_ind P false x y f g = g tt

-- only what holds where the test passes matters
pub cond_same : {A : Type 0} (b : Bool) (x y z : A) → (T b → x ≡ y) → cond b x z ≡ cond b y z
cond_same true x y z h = h tt
cond_same false x y z h = refl

pub and_same : (b x y : Bool) → (T b → x ≡ y) → (b && x) ≡ (b && y)
and_same true x y h = h tt
and_same false x y h = refl

-- by the ways that meet; the sum stands first, so that each arm is read with what it is handed
pub cases : {A B C : Type 0} → A ⊎ B → (A → C) → (B → C) → C
cases (inl a) f g = f a
cases (inr b) f g = g b
