-- The three counts are the numbers of turns on the way, from any machine.
use mathlib.Core.Path.{◌≡◌, ap}
use mathlib.Core.Bool.{Bool}
use Prim.Native.Nat.{ℕ, zero, suc, ◌+◌}
use native.Mathlib.Omega.{arith}
use Rattle.lines.specs.Sum.{sum}
use Rattle.lines.specs.Count.{bit, count}
use Rattle.steps.specs.Steps.{Next, Machine, covering, reaching, augmenting, adjusting, step, steps}
use Rattle.steps.specs.Counts.{adjusts, primes, augments, turns}
use Rattle.steps.proofs.Turns.{step_ind}
use Rattle.steps.proofs.Runs.{steps_last}

module _ (n : ℕ) (ok : ℕ → ℕ → Bool) (budget : ℕ) where
  step_adjusts : (m : Machine) → (step n ok budget m).run.adjustments ≡ m.run.adjustments + bit (adjusts m.run.next (step n ok budget m).run.next)
  unfolding covering reaching augmenting adjusting adjusts bit
  step_adjusts m =
      step_ind n ok budget m (λ x r. r.adjustments ≡ m.run.adjustments + bit (adjusts x r.next))
      (λ x. omega arith) (λ i s. omega arith) (λ i j. omega arith) (omega arith) (λ i j. omega arith) (omega arith) (λ e. omega arith) (λ e. omega arith)
      (omega arith) (omega arith) (omega arith)

  step_primes : (m : Machine) → (step n ok budget m).run.primes ≡ m.run.primes + bit (primes m.run.next (step n ok budget m).run.next)
  unfolding covering reaching augmenting adjusting primes bit
  step_primes m =
      step_ind n ok budget m (λ x r. r.primes ≡ m.run.primes + bit (primes x r.next))
      (λ x. omega arith) (λ i s. omega arith) (λ i j. omega arith) (omega arith) (λ i j. omega arith) (omega arith) (λ e. omega arith) (λ e. omega arith)
      (omega arith) (omega arith) (omega arith)

  step_augments : (m : Machine) → (step n ok budget m).run.augmentations ≡ m.run.augmentations + bit (augments m.run.next (step n ok budget m).run.next)
  unfolding covering reaching augmenting adjusting augments bit
  step_augments m =
      step_ind n ok budget m (λ x r. r.augmentations ≡ m.run.augmentations + bit (augments x r.next))
      (λ x. omega arith) (λ i s. omega arith) (λ i j. omega arith) (omega arith) (λ i j. omega arith) (omega arith) (λ e. omega arith) (λ e. omega arith)
      (omega arith) (omega arith) (omega arith)

  -- what each step adds adds up
  adds_up : (value : Machine → ℕ) (test : Next → Next → Bool) → ((m : Machine) → value (step n ok budget m) ≡ value m + bit (test m.run.next (step n ok budget m).run.next))
      → (k : ℕ) (m : Machine) → value (steps n ok budget k m) ≡ value m + turns n ok budget test k m
  unfolding steps turns count sum
  adds_up value test each zero m = omega arith
  adds_up value test each (suc k) m =
      omega (arith, ap value (steps_last n ok budget k m), each (steps n ok budget k m), adds_up value test each k m)

  -- the counts after k steps are those before, and the turns on the way
  pub record Counted (k : ℕ) (m : Machine) : Type 0 where
    pub adjustments : (steps n ok budget k m).run.adjustments ≡ m.run.adjustments + turns n ok budget adjusts k m
    pub primed : (steps n ok budget k m).run.primes ≡ m.run.primes + turns n ok budget primes k m
    pub augmentations : (steps n ok budget k m).run.augmentations ≡ m.run.augmentations + turns n ok budget augments k m

  pub counted : (k : ℕ) (m : Machine) → Counted k m
  counted k m = record {
    adjustments = adds_up (λ m. m.run.adjustments) adjusts step_adjusts k m;
    primed = adds_up (λ m. m.run.primes) primes step_primes k m;
    augmentations = adds_up (λ m. m.run.augmentations) augments step_augments k m;
  }
