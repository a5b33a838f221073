-- The turns that the three counts count: how many of the steps on the way adjust prices, prime a zero, and augment.
use Rattle.std.specs.Prelude.{Bool, not, ◌&&◌, ℕ, eqb}
use Rattle.lines.specs.Count.{count}
use Rattle.steps.specs.Steps.{Next, Step3, Step4, Step5, Step6, Paired, NoPairing, Unfinished, Machine, step, steps}

-- the number of the step, 0 at an end
abbrev pub which : Next → ℕ
which Step3 = 3
which Step4 = 4
which (Step5 i j) = 5
which Step6 = 6
which Paired = 0
which NoPairing = 0
which Unfinished = 0

-- at one of the three ends
abbrev pub over : Next → Bool
over x = eqb (which x) 0

-- a turn from step x to step y
unfoldable pub adjusts : Next → Next → Bool
adjusts x y = eqb (which x) 6 && eqb (which y) 4

-- a step 4 that primes does not lead to step 6
unfoldable pub primes : Next → Next → Bool
primes x y = eqb (which x) 4 && not (eqb (which y) 6)

unfoldable pub augments : Next → Next → Bool
augments x y = eqb (which x) 5

-- how many of the k steps from m are such turns
unfoldable pub turns : (n : ℕ) → (ℕ → ℕ → Bool) → ℕ → (Next → Next → Bool) → ℕ → Machine → ℕ
turns n ok budget test k m = count (λ i. let x = steps n ok budget i m in test x.run.next (step n ok budget x).run.next) k
