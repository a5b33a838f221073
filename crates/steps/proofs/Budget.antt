-- The budget: it is never passed, a run is unfinished only where it is spent and a minimum is there, and with a larger one a run that came to another end is the same.
use mathlib.Core.Path.{◌≡◌, refl, sym, ap, ◌∙◌}
use mathlib.Core.Logic.{◌≢◌}
use mathlib.Core.Bool.{Bool, true, false, not, cond, true≢false}
use mathlib.Core.List.{List}
use Prim.Native.Nat.{ℕ, zero, suc, ◌*◌, ◌≤◌}
use native.Mathlib.Omega.{arith}
use lib.Dec.{T_not, ltb, eqb}
use lib.IntN.{ℤ}
use Rattle.lines.proofs.Tests.{T_false, eqb_no, eqb_yes}
use Rattle.steps.specs.Steps.{Next, Step3, Step4, Step5, Step6, Paired, NoPairing, Unfinished, Run, Machine, machine, start, step3, covering, reaching, step5, augmenting, adjusting, lowest, step6, step_at, step, steps}
use Rattle.steps.proofs.Turns.{Lowest, step3_ind, step4_ind, step6_ind}
use Rattle.steps.specs.Counts.{over}
use Rattle.steps.proofs.Runs.{steps_stay, kept}

abbrev is_unfinished : Next → Bool
is_unfinished Step3 = false
is_unfinished Step4 = false
is_unfinished (Step5 i j) = false
is_unfinished Step6 = false
is_unfinished Paired = false
is_unfinished NoPairing = false
is_unfinished Unfinished = true

other : (x : Next) → is_unfinished x ≡ false → x ≢ Unfinished
other x e u = true≢false (sym (ap is_unfinished u) ∙ e)

-- ---- never passed

module _ (n : ℕ) (ok : ℕ → ℕ → Bool) (budget : ℕ) where
  pub within : (m : Machine) → m.run.adjustments ≤ budget → (step n ok budget m).run.adjustments ≤ budget
  unfolding step step_at step3 step5 augmenting covering reaching adjusting
  within m h = go m.run.next
    where
      go : (x : Next) → (step_at n ok budget x m).run.adjustments ≤ budget
      go Step3 = h
      go Step4 = step4_ind n ok m.working m.run m.marks (λ o. o.0.adjustments ≤ budget) (λ i j z s. h) (λ i j z s. h) (λ z. h)
      go (Step5 i j) = h
      go Step6 =
          step6_ind n ok budget m.run m.working m.row_prices m.column_prices (λ o. o.0.adjustments ≤ budget) (λ none. h) (λ z l e. h) (λ z l e. omega arith)
      go Paired = h
      go NoPairing = h
      go Unfinished = h

  -- ---- spent

  -- the budget is spent, and `least` is the least working value of the open cells
  pub record Spent (m : Machine) : Type 0 where
    pub all : m.run.adjustments ≡ budget
    pub least : ℤ
    pub lowest : Lowest n ok m.working m.run.rows m.run.columns least

  pub spent_step : (m : Machine) → (m.run.next ≡ Unfinished → Spent m) → (step n ok budget m).run.next ≡ Unfinished → Spent (step n ok budget m)
  unfolding step step_at step5 augmenting covering reaching adjusting
  spent_step m h = go m.run.next
    where
      go : (x : Next) → (step_at n ok budget x m).run.next ≡ Unfinished → Spent (step_at n ok budget x m)
      go Step3 =
          step3_ind n ok m.marks m.run (λ r. r.next ≡ Unfinished → Spent (machine r m.working m.marks m.row_prices m.column_prices))
          (λ f u. absurd (other Paired refl u)) (λ f u. absurd (other Step4 refl u))
      go Step4 =
          step4_ind n ok m.working m.run m.marks (λ o. o.0.next ≡ Unfinished → Spent (machine o.0 m.working o.1 m.row_prices m.column_prices))
          (λ i j z s u. absurd (other Step4 refl u)) (λ i j z s u. absurd (other (Step5 i j) refl u)) (λ z u. absurd (other Step6 refl u))
      go (Step5 i j) = λ u. absurd (other Step3 refl u)
      go Step6 =
          step6_ind n ok budget m.run m.working m.row_prices m.column_prices
          (λ o. o.0.next ≡ Unfinished → Spent (machine o.0 o.1 m.marks o.2 o.3))
          (λ none u. absurd (other NoPairing refl u))
          (λ z l b u. record { all = b; least = z; lowest = l })
          (λ z l b u. absurd (other Step4 refl u))
      go Paired = h
      go NoPairing = h
      go Unfinished = h

  pub spent_start : (cost : ℕ → ℕ → ℤ) → (start n ok cost).run.next ≡ Unfinished → Spent (start n ok cost)
  unfolding start
  spent_start cost u = absurd (other Step3 refl u)

  -- so a run is unfinished only where the budget is spent
  pub spent : (m : Machine) → (m.run.next ≡ Unfinished → Spent m) → (k : ℕ) → (steps n ok budget k m).run.next ≡ Unfinished → Spent (steps n ok budget k m)
  spent m h k = kept n ok budget (λ m. m.run.next ≡ Unfinished → Spent m) spent_step m h k

-- ---- larger

-- of three, where the second is bad and the choice is not, its test does not matter
same_choice : {X : Type 0} (Bad : X → Type 0) (x y y' : Bool) (a b c : X) → Bad b → (y ≡ false → y' ≡ false) → (Bad (cond x a (cond y b c)) → ⊥)
    → cond x a (cond y' b c) ≡ cond x a (cond y b c)
same_choice Bad true y y' a b c h f ne = refl
same_choice Bad false true y' a b c h f ne = absurd (ne h)
same_choice Bad false false y' a b c h f ne = rw (f refl)

module _ (n : ℕ) (ok : ℕ → ℕ → Bool) (b b' : ℕ) (h : b ≤ b') where
  larger_step6 : (r : Run) (working row_prices column_prices : List ℤ) → r.adjustments ≤ b → (step6 n ok b r working row_prices column_prices).0.next ≢ Unfinished
      → step6 n ok b' r working row_prices column_prices ≡ step6 n ok b r working row_prices column_prices
  unfolding step6
  larger_step6 r working row_prices column_prices l ne =
      same_choice (λ o. o.0.next ≡ Unfinished) (not (ltb (lowest n ok working r.rows r.columns) (n * n))) (eqb r.adjustments b) (eqb r.adjustments b') _ _ _ refl
      (λ e. T_false _ (eqb_no _ b' (λ q. T_not (eqb r.adjustments b) (rw e tt) (eqb_yes _ b (omega arith))))) ne

  larger_step : (m : Machine) → m.run.adjustments ≤ b → (step n ok b m).run.next ≢ Unfinished → step n ok b' m ≡ step n ok b m
  unfolding step step_at
  larger_step m l = go m.run.next
    where
      go : (x : Next) → (step_at n ok b x m).run.next ≢ Unfinished → step_at n ok b' x m ≡ step_at n ok b x m
      go Step3 ne = refl
      go Step4 ne = refl
      go (Step5 i j) ne = refl
      go Step6 ne = ap (λ o. machine o.0 o.1 m.marks o.2 o.3) (larger_step6 m.run m.working m.row_prices m.column_prices l ne)
      go Paired ne = refl
      go NoPairing ne = refl
      go Unfinished ne = refl

  -- a run that does not come to its budget's end makes the same steps with a larger one
  pub larger : (k : ℕ) (m : Machine) → m.run.adjustments ≤ b → (steps n ok b k m).run.next ≢ Unfinished → steps n ok b' k m ≡ steps n ok b k m
  unfolding steps
  larger zero m l ne = refl
  larger (suc k) m l ne =
      ap (steps n ok b' k) (larger_step m l (λ u. ne (ap (λ (m : Machine). m.run.next) (steps_stay n ok b k (step n ok b m) (ap over u)) ∙ u)))
      ∙ larger k (step n ok b m) (within n ok b m l) ne
