-- Every list of a machine keeps its length.
use mathlib.Core.Path.{◌≡◌, refl, ◌∙◌}
use mathlib.Core.Bool.{Bool, cond}
use mathlib.Core.List.{List, [], ◌∷◌}
use Prim.Native.Nat.{ℕ, zero, suc, ◌+◌, ◌*◌}
use lib.Dec.{eqb, ltb}
use lib.IntN.{ℤ}
use lib.ListN.{length, set, length-set}
use Rattle.lines.specs.Square.{cell}
use Rattle.lines.proofs.Tests.{cond_ind}
use Rattle.lines.proofs.Squares.{length_table, length_square, length_each}
use Rattle.steps.specs.Going.{Shape}
use Rattle.steps.specs.Steps.{Next, Step3, Step4, Step5, Step6, Paired, NoPairing, Unfinished, Run, Machine, machine, free_zero, star_row, step2, start, step4, clear_primes, path, flip, step5, augmenting, lowered, raised, followed, step_at, step}
use Rattle.steps.proofs.Turns.{step4_ind, step6_ind}

module _ (n : ℕ) where
  pub length_flip : (marks : List ℕ) (ps : List (ℕ × ℕ)) → length (flip n marks ps) ≡ length marks
  unfolding flip
  length_flip marks [] = refl
  length_flip marks (p ∷ ps) = length_flip (set marks (p.0 * n + p.1) (cond (eqb (cell 0 n marks p.0 p.1) 1) 0 1)) ps ∙ length-set marks _ _

  pub length_step5 : (i j : ℕ) (r : Run) (marks : List ℕ) → length (step5 n i j r marks).1 ≡ length marks
  unfolding step5 augmenting clear_primes
  length_step5 i j r marks = length_each _ _ ∙ length_flip marks (path n marks n i j)

  module _ (ok : ℕ → ℕ → Bool) where
    pub length_star_row : (working : List ℤ) (i : ℕ) (marks : List ℕ) → length (star_row n ok working i marks) ≡ length marks
    unfolding star_row
    length_star_row working i marks =
        let j = free_zero n ok working marks i in
        cond_ind (λ (l : List ℕ). length l ≡ length marks) (ltb j n) (set marks (i * n + j) 1) marks (λ t. length-set marks _ 1) (λ t. refl)

    pub length_step2 : (working : List ℤ) (marks : List ℕ) (k : ℕ) → length (step2 n ok working marks k) ≡ length marks
    unfolding step2
    length_step2 working marks zero = refl
    length_step2 working marks (suc k) = length_star_row working k (step2 n ok working marks k) ∙ length_step2 working marks k

    pub length_step4 : (working : List ℤ) (r : Run) (marks : List ℕ) → length (step4 n ok working r marks).1 ≡ length marks
    length_step4 working r marks =
        step4_ind n ok working r marks (λ o. length o.1 ≡ length marks) (λ i j z s. length-set marks _ 2) (λ i j z s. length-set marks _ 2) (λ z. refl)

    pub shape_start : (cost : ℕ → ℕ → ℤ) → Shape n (start n ok cost)
    unfolding start
    shape_start cost = record {
      working = length_square _ n;
      marks = length_step2 _ _ n ∙ length_square _ n;
      row_prices = length_table _ n;
      column_prices = length_table _ n;
    }

    pub shape_step : (budget : ℕ) (m : Machine) → Shape n m → Shape n (step n ok budget m)
    unfolding step step_at lowered raised followed
    shape_step budget m s = go m.run.next
      where
        go : (x : Next) → Shape n (step_at n ok budget x m)
        go Step3 = record { working = s.working; marks = s.marks; row_prices = s.row_prices; column_prices = s.column_prices }
        go Step4 =
            record { working = s.working; marks = length_step4 m.working m.run m.marks ∙ s.marks; row_prices = s.row_prices; column_prices = s.column_prices }
        go (Step5 i j) =
            record { working = s.working; marks = length_step5 i j m.run m.marks ∙ s.marks; row_prices = s.row_prices; column_prices = s.column_prices }
        go Step6 =
            step6_ind n ok budget m.run m.working m.row_prices m.column_prices (λ o. Shape n (machine o.0 o.1 m.marks o.2 o.3))
            (λ none. record { working = s.working; marks = s.marks; row_prices = s.row_prices; column_prices = s.column_prices })
            (λ z l e. record { working = s.working; marks = s.marks; row_prices = s.row_prices; column_prices = s.column_prices })
            (λ z l e. record {
              working = length_each _ m.working ∙ s.working;
              marks = s.marks;
              row_prices = length_each _ m.row_prices ∙ s.row_prices;
              column_prices = length_each _ m.column_prices ∙ s.column_prices;
            })
        go Paired = s
        go NoPairing = s
        go Unfinished = s
