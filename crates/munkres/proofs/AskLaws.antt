-- What each step asks, of a good machine.
use mathlib.Core.Path.{◌≡◌, sym, ◌∙◌}
use mathlib.Core.Bool.{Bool}
use mathlib.Core.List.{List}
use Prim.Native.Nat.{ℕ}
use native.Mathlib.Omega.{arith}
use lib.IntN.{ℤ}
use Rattle.steps.specs.Lent.{allows}
use Rattle.steps.specs.Steps as S
use Rattle.steps.specs.Steps.{Machine}
use Rattle.steps.proofs.Marks.{find_star, mark_is_star}
use Rattle.steps.specs.Going.{Starred}
use Rattle.steps.proofs.Theorems.{ready_ends}
use Rattle.ground.specs.Square.{Grid}
use Rattle.ground.specs.Good.{Good}
use Rattle.ground.proofs.GoodLaws.{sound_at, more_primes, more_augmentations, adjusts}
use Rattle.munkres.specs.ForSteps.{OneStarARow, ForStep3, ForStep4, ForStep5, ForStep6}

-- a star that the marks show is the first of its row
pub one_star : {n : ℕ} {ok : ℕ → ℕ → Bool} {working : List ℤ} {marks : List ℕ} → Starred n ok working marks → OneStarARow n marks
one_star {n} s i j hi hj e =
    let q : s.star i ≡ j = mark_is_star s.star (λ i. n) i j (sym (s.shows.marked i j hj) ∙ e) in
    find_star s.shows i ∙ (omega arith)

module _ {n : ℕ} {mask : List ℕ} {budget : ℕ} {m : Machine} (g : Good n mask budget m) where
  abbrev ok : ℕ → ℕ → Bool
  ok = allows n mask

  grid : Grid n mask m.working
  grid = record { word = g.frame.word; mask_square = g.frame.mask_square; working_square = g.kept.going.shape.working }

  pub at_step3 : m.run.next ≡ S.Step3 → ForStep3 n m.marks
  at_step3 e = record { word = g.frame.word; marks_square = g.kept.going.shape.marks; one_star = one_star (sound_at g.kept S.Step3 e).0 }

  pub at_step4 : m.run.next ≡ S.Step4 → ForStep4 n mask m.run.primes m.working m.marks
  at_step4 e = record { grid = grid; marks_square = g.kept.going.shape.marks; more = more_primes g.kept e }

  pub at_step5 : (i j : ℕ) → m.run.next ≡ S.Step5 i j → ForStep5 n m.run.augmentations i j m.marks
  at_step5 i j e = record {
    most = g.frame.word.most;
    marks_square = g.kept.going.shape.marks;
    ends = ready_ends n ok (sound_at g.kept (S.Step5 i j) e);
    more = more_augmentations g.kept i j e;
  }

  pub at_step6 : m.run.next ≡ S.Step6 → ForStep6 n mask budget m.run m.working m.row_prices m.column_prices
  at_step6 e = record {
    grid = grid;
    flags = g.frame.flags;
    row_lines = g.kept.going.shape.row_prices;
    column_lines = g.kept.going.shape.column_prices;
    spare = g.kept.spare;
    adjusts = λ ne h. adjusts g.kept e ne h;
  }
