-- Runs of the machine, from any state: an end stays, there is one end, what each step keeps holds all the way, and a falling number ends the run.
use mathlib.Core.Path.{◌≡◌, refl, sym, ap, ◌∙◌}
use mathlib.Core.Bool.{Bool, true, false, true≢false}
use Prim.Native.Nat.{ℕ, zero, suc, ◌+◌, ◌≤◌, ◌<◌}
use native.Mathlib.Omega.{arith}
use Rattle.steps.specs.Counts.{over}
use Rattle.steps.specs.Steps.{Next, Step3, Step4, Step5, Step6, Paired, NoPairing, Unfinished, Machine, step_at, step, steps}

module _ (n : ℕ) (ok : ℕ → ℕ → Bool) (budget : ℕ) where
  -- a machine that is over does not change
  pub stays : (m : Machine) → over m.run.next ≡ true → step n ok budget m ≡ m
  unfolding step step_at
  stays m o = go m.run.next o
    where
      go : (x : Next) → over x ≡ true → step_at n ok budget x m ≡ m
      go Step3 e = absurd (true≢false (sym e))
      go Step4 e = absurd (true≢false (sym e))
      go (Step5 i j) e = absurd (true≢false (sym e))
      go Step6 e = absurd (true≢false (sym e))
      go Paired e = refl
      go NoPairing e = refl
      go Unfinished e = refl

  pub steps_stay : (k : ℕ) (m : Machine) → over m.run.next ≡ true → steps n ok budget k m ≡ m
  unfolding steps
  steps_stay zero m o = refl
  steps_stay (suc k) m o = ap (steps n ok budget k) (stays m o) ∙ steps_stay k m o

  -- one step more, at the end
  pub steps_last : (k : ℕ) (m : Machine) → steps n ok budget (suc k) m ≡ step n ok budget (steps n ok budget k m)
  unfolding steps
  steps_last zero m = refl
  steps_last (suc k) m = steps_last k (step n ok budget m)

  pub steps_add : (j k : ℕ) (m : Machine) → steps n ok budget (j + k) m ≡ steps n ok budget k (steps n ok budget j m)
  unfolding steps
  steps_add j zero m = let e : j + 0 ≡ j = omega arith in rw e
  steps_add j (suc k) m =
      let e : j + suc k ≡ suc (j + k) = omega arith in
      rw e (steps_add j k (step n ok budget m) ∙ ap (steps n ok budget k) (steps_last j m))

  -- two ends of one run are equal
  pub one_end : (j k : ℕ) (m : Machine) → over (steps n ok budget j m).run.next ≡ true → over (steps n ok budget k m).run.next ≡ true
      → steps n ok budget j m ≡ steps n ok budget k m
  unfolding steps
  one_end zero k m p q = sym (steps_stay k m p)
  one_end (suc j) zero m p q = steps_stay (suc j) m q
  one_end (suc j) (suc k) m p q = one_end j k (step n ok budget m) p q

  module _ (I : Machine → Type 0) (keeps : (m : Machine) → I m → I (step n ok budget m)) where
    pub kept : (m : Machine) → I m → (k : ℕ) → I (steps n ok budget k m)
    unfolding steps
    kept m i zero = i
    kept m i (suc k) = kept (step n ok budget m) (keeps m i) k

    -- within any bound on the falling number
    ends_within : (left : Machine → ℕ) → ((m : Machine) → I m → over m.run.next ≡ false → left (step n ok budget m) < left m)
        → (bound : ℕ) (m : Machine) → I m → left m ≤ bound → (k : ℕ) × (over (steps n ok budget k m).run.next ≡ true)
    unfolding steps
    ends_within left falls zero m i h = go (over m.run.next) refl
      where
        go : (b : Bool) → over m.run.next ≡ b → (k : ℕ) × (over (steps n ok budget k m).run.next ≡ true)
        go true e = (0, e)
        go false e = absurd (omega (arith, falls m i e))
    ends_within left falls (suc bound) m i h = go (over m.run.next) refl (ends_within left falls bound (step n ok budget m) (keeps m i))
      where
        go : (b : Bool) → over m.run.next ≡ b
            → (left (step n ok budget m) ≤ bound → (k : ℕ) × (over (steps n ok budget k (step n ok budget m)).run.next ≡ true))
            → (k : ℕ) × (over (steps n ok budget k m).run.next ≡ true)
        go true e rec = (0, e)
        go false e rec = let r = rec (omega (arith, falls m i e)) in (suc r.0, r.1)

    pub ends : (left : Machine → ℕ) → ((m : Machine) → I m → over m.run.next ≡ false → left (step n ok budget m) < left m)
        → (m : Machine) → I m → (k : ℕ) × (over (steps n ok budget k m).run.next ≡ true)
    ends left falls m i = ends_within left falls (left m) m i (omega arith)
