-- A function with one value changed, of one index and of two.
use mathlib.Core.Path.{◌≡◌, sym, ap, ◌∙◌}
use mathlib.Core.Logic.{◌≢◌, ite, dite, if_pos, if_neg, apply_ite}
use Prim.Native.Nat.{ℕ}
use native.Mathlib.Decide.{ℕ_discrete}
use Rattle.lines.specs.Put.{put}

pub put_at {ℓ} : {A : Type ℓ} (f : ℕ → A) (v : ℕ) (x : A) (j : ℕ) → j ≡ v → put f v x j ≡ x
unfolding put
put_at f v x j e = if_pos (ℕ_discrete j v) e x (f j)

pub put_off {ℓ} : {A : Type ℓ} (f : ℕ → A) (v : ℕ) (x : A) (j : ℕ) → j ≢ v → put f v x j ≡ f j
unfolding put
put_off f v x j e = if_neg (ℕ_discrete j v) e x (f j)

-- what holds of x, and of f elsewhere, holds of both
pub put_case {ℓ κ} : {A : Type ℓ} (P : A → Type κ) (f : ℕ → A) (v : ℕ) (x : A) (j : ℕ) → (j ≡ v → P x) → (j ≢ v → P (f j)) → P (put f v x j)
unfolding put
put_case P f v x j here off = elim (ℕ_discrete j v) as (λ d. P (ite d x (f j))) [ yes e ↦ here e | no ne ↦ off ne ]

pub put_map {ℓ κ} : {A : Type ℓ} {B : Type κ} (g : A → B) (f : ℕ → A) (v : ℕ) (x : A) (j : ℕ) → g (put f v x j) ≡ put (λ i. g (f i)) v (g x) j
unfolding put
put_map g f v x j = apply_ite g (ℕ_discrete j v) x (f j)

-- f with the value x at (i, j)
abbrev pub put2 {ℓ} : {A : Type ℓ} → (ℕ → ℕ → A) → ℕ → ℕ → A → ℕ → ℕ → A
put2 f i j x = put f i (put (f i) j x)

pub put2_at {ℓ} : {A : Type ℓ} (f : ℕ → ℕ → A) (i j : ℕ) (x : A) (a b : ℕ) → a ≡ i → b ≡ j → put2 f i j x a b ≡ x
put2_at f i j x a b p q = ap (λ g. g b) (put_at f i (put (f i) j x) a p) ∙ put_at (f i) j x b q

pub put2_off {ℓ} : {A : Type ℓ} (f : ℕ → ℕ → A) (i j : ℕ) (x : A) (a b : ℕ) → (a ≡ i → b ≢ j) → put2 f i j x a b ≡ f a b
put2_off f i j x a b d =
    dite (ℕ_discrete a i)
    (λ p. ap (λ g. g b) (put_at f i (put (f i) j x) a p) ∙ put_off (f i) j x b (d p) ∙ ap (λ y. f y b) (sym p))
    (λ ne. ap (λ g. g b) (put_off f i (put (f i) j x) a ne))

pub put2_case {ℓ κ} : {A : Type ℓ} (P : A → Type κ) (f : ℕ → ℕ → A) (i j : ℕ) (x : A) (a b : ℕ) → (a ≡ i → b ≡ j → P x) → ((a ≡ i → b ≢ j) → P (f a b))
    → P (put2 f i j x a b)
put2_case P f i j x a b here off =
    dite (ℕ_discrete a i)
    (λ p. dite (ℕ_discrete b j) (λ q. rw (put2_at f i j x a b p q) (here p q)) (λ ne. rw (put2_off f i j x a b (λ e. ne)) (off (λ e. ne))))
    (λ ne. rw (put2_off f i j x a b (λ e. absurd (ne e))) (off (λ e. absurd (ne e))))
