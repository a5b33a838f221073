-- The machine's step from what each arm of the code gives, and the run from one step more.
use mathlib.Core.Path.{◌≡◌, refl, sym, ap, ◌∙◌}
use mathlib.Core.Bool.{Bool, true, false}
use mathlib.Core.List.{List}
use Prim.Native.Nat.{ℕ, suc, ◌<◌}
use lib.IntN.{ℤ}
use Rattle.steps.specs.Lent.{allows}
use Rattle.steps.specs.Steps as S
use Rattle.steps.specs.Steps.{Run, Machine, machine}
use Rattle.steps.specs.Counts.{over}
use Rattle.steps.proofs.Runs.{stays, steps_last}
use Rattle.steps.specs.Bounds.{left}
use Rattle.ground.specs.Good.{Good, Came}
use Rattle.ground.proofs.GoodLaws.{good_step, good_falls}

module _ (n : ℕ) (ok : ℕ → ℕ → Bool) (budget : ℕ) (m : Machine) where
  pub arm_3 : {r : Run} → m.run.next ≡ S.Step3 → r ≡ S.step3 n m.marks m.run
      → machine r m.working m.marks m.row_prices m.column_prices ≡ S.step n ok budget m
  unfolding S.step S.step_at
  arm_3 e a = ap (λ r. machine r m.working m.marks m.row_prices m.column_prices) a ∙ ap (λ x. S.step_at n ok budget x m) (sym e)

  pub arm_4 : {o : Run × List ℕ} → m.run.next ≡ S.Step4 → o ≡ S.step4 n ok m.working m.run m.marks
      → machine o.0 m.working o.1 m.row_prices m.column_prices ≡ S.step n ok budget m
  unfolding S.step S.step_at
  arm_4 e a = ap (λ o. machine o.0 m.working o.1 m.row_prices m.column_prices) a ∙ ap (λ x. S.step_at n ok budget x m) (sym e)

  pub arm_5 : {o : Run × List ℕ} {i j : ℕ} → m.run.next ≡ S.Step5 i j → o ≡ S.step5 n i j m.run m.marks
      → machine o.0 m.working o.1 m.row_prices m.column_prices ≡ S.step n ok budget m
  unfolding S.step S.step_at
  arm_5 e a = ap (λ o. machine o.0 m.working o.1 m.row_prices m.column_prices) a ∙ ap (λ x. S.step_at n ok budget x m) (sym e)

  pub arm_6 : {o : Run × List ℤ × List ℤ × List ℤ} → m.run.next ≡ S.Step6
      → o ≡ S.step6 n ok budget m.run m.working m.row_prices m.column_prices → machine o.0 o.1 m.marks o.2 o.3 ≡ S.step n ok budget m
  unfolding S.step S.step_at
  arm_6 e a = ap (λ o. machine o.0 o.1 m.marks o.2 o.3) a ∙ ap (λ x. S.step_at n ok budget x m) (sym e)

  pub arm_end : over m.run.next ≡ true → m ≡ S.step n ok budget m
  arm_end o = sym (stays n ok budget m o)

-- ---- the run: some steps from `before`, and one more

-- as in `Came`, before the end
pub record Coming (n : ℕ) (mask : List ℕ) (budget : ℕ) (before m : Machine) : Type 0 where
  pub count : ℕ
  pub exact : m ≡ S.steps n (allows n mask) budget count before
  pub good : Good n mask budget m

module _ {n : ℕ} {mask : List ℕ} {budget : ℕ} where
  pub coming_here : {m : Machine} → Good n mask budget m → Coming n mask budget m m
  unfolding S.steps
  coming_here g = record { count = 0; exact = refl; good = g }

  module _ {before m m' : Machine} (e : m' ≡ S.step n (allows n mask) budget m) (c : Coming n mask budget before m) where
    pub coming_next : Coming n mask budget before m'
    coming_next = record {
      count = suc c.count;
      exact = e ∙ ap (S.step n (allows n mask) budget) c.exact ∙ sym (steps_last n (allows n mask) budget c.count before);
      good = rw e (good_step c.good);
    }

    pub coming_falls : over m.run.next ≡ false → left n (allows n mask) m' < left n (allows n mask) m
    coming_falls o = rw e (good_falls c.good o)

  pub came : {before m : Machine} → Coming n mask budget before m → over m.run.next ≡ true → Came n mask budget before m
  came c o = record { count = c.count; exact = c.exact; ended = o; good = c.good }
