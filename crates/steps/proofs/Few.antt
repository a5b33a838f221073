-- The counts of a run, wherever it began: none is more than what was left to do, so 32 bits hold them. No row need have a zero for that.
use mathlib.Core.Path.{◌≡◌, sym, subst}
use mathlib.Core.Bool.{Bool}
use Prim.Native.Nat.{ℕ, ◌+◌, ◌-◌, ◌*◌, ◌^◌, ◌≤◌, ◌<◌}
use native.Mathlib.Nat.{mul-le-mul, mul-le-mul_right}
use native.Mathlib.Omega.{arith}
use lib.Dec.{ltb}
use Rattle.lines.proofs.Tests.{by_cases, cond_ind}
use Rattle.lines.proofs.Counts.{count_le}
use Rattle.steps.specs.Steps.{Next, Step3, Step4, Step5, Step6, Paired, NoPairing, Unfinished, Machine, star_count, zero_column, step, steps}
use Rattle.steps.specs.Counts.{over, adjusts, primes, augments, turns}
use Rattle.steps.specs.Going.{Shape, Sound}
use Rattle.steps.specs.Bounds.{waits, turn, left_at, left, Few}
use Rattle.steps.proofs.Runs.{stays}
use Rattle.steps.proofs.Counted.{counted}
use Rattle.steps.proofs.Settles.{falls}

-- what is left to do is never more
abbrev pub most_steps : ℕ → ℕ
most_steps n = n * (4 * n + 8) + 4 * n + 4

module _ (n : ℕ) (ok : ℕ → ℕ → Bool) where
  pub few_step : (budget l : ℕ) (m : Machine) → Shape n m → Sound n ok m → Few n ok l m → Few n ok l (step n ok budget m)
  unfolding steps turns
  few_step budget l m shape sound f =
      by_cases (over m.run.next)
      (λ e. subst (Few n ok l) (sym (stays n ok budget m e)) f)
      (λ e.
      let c = counted n ok budget 1 m in
      let d = falls n ok budget m shape sound e in
      record {
        adjustments = omega (arith, d, c.adjustments, count_le (λ i. let x = steps n ok budget i m in adjusts x.run.next (step n ok budget x).run.next) 1, f.adjustments);
        primes = omega (arith, d, c.primed, count_le (λ i. let x = steps n ok budget i m in primes x.run.next (step n ok budget x).run.next) 1, f.primes);
        augmentations = omega (arith, d, c.augmentations, count_le (λ i. let x = steps n ok budget i m in augments x.run.next (step n ok budget x).run.next) 1, f.augmentations);
      })

  few_turns : (x : Next) (m : Machine) → turn n ok x m ≤ 4
  unfolding turn waits
  few_turns Step3 m = omega arith
  few_turns Step4 m = cond_ind (λ x. x ≤ 4) (ltb (zero_column n ok m.working m.run.rows m.run.columns) n) 1 3 (λ t. omega arith) (λ t. omega arith)
  few_turns (Step5 i j) m = omega arith
  few_turns Step6 m = omega arith
  few_turns Paired m = omega arith
  few_turns NoPairing m = omega arith
  few_turns Unfinished m = omega arith

  most_left : (m : Machine) → left n ok m ≤ most_steps n
  unfolding left left_at
  most_left m =
      let rest : n - star_count n m.marks ≤ n = omega arith in
      omega (arith, mul-le-mul_right (4 * n + 8) rest, few_turns m.run.next m)

  -- with counts from 0
  pub few_none : (m : Machine) → m.run.adjustments ≡ 0 → m.run.primes ≡ 0 → m.run.augmentations ≡ 0 → Few n ok (most_steps n) m
  few_none m a p g = record { adjustments = omega (arith, most_left m); primes = omega (arith, most_left m); augmentations = omega (arith, most_left m) }

pub few_small : (n : ℕ) → n ≤ 256 → most_steps n < 2 ^ 32
few_small n h = omega (arith, mul-le-mul h (let l : 4 * n + 8 ≤ 1032 = omega arith in l))
