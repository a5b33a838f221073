-- Step 2 leaves stars on zeros, one at most in each row and column; and one at least, if row 0 has a zero.
use mathlib.Core.Path.{refl}
use mathlib.Core.Logic.{dite}
use mathlib.Core.Bool.{Bool, not, ◌&&◌}
use mathlib.Core.List.{List}
use Prim.Native.Nat.{ℕ, zero, suc, ◌+◌, ◌*◌, ◌≤◌, ◌<◌}
use native.Mathlib.Decide.{ℕ_discrete, dec_lt}
use native.Mathlib.Omega.{arith}
use lib.Dec.{T, T_not, not_T, ltb, ltb→lt, lt→ltb, nltb→le}
use lib.IntN.{ℤ}
use lib.ListN.{set}
use Rattle.lines.specs.Square.{square}
use Rattle.lines.proofs.Tests.{cond_ind, both, and_left, and_right}
use Rattle.lines.specs.Put.{put}
use Rattle.lines.proofs.Puts.{put_off, put_case}
use Rattle.lines.proofs.Counts.{count_pos}
use Rattle.lines.proofs.Firsts.{first_is}
use Rattle.steps.specs.Steps.{star_in_column, star_count, zero_at, excess, free_zero, star_row, step2, start}
use Rattle.steps.proofs.Turns.{zero_is, is_zero_pos}
use Rattle.steps.specs.Going.{Matching, has_star, Shows, Zero, Starred, Sound}
use Rattle.steps.proofs.Matching.{moved, none_apart, starless}
use Rattle.steps.proofs.Marks.{show_none, show_bare, show_starred, find_row, find_count}

module _ (n : ℕ) (ok : ℕ → ℕ → Bool) (working : List ℤ) where
  zero_at_is : (i j : ℕ) → T (zero_at n ok working i j) → Zero n ok working i j
  unfolding zero_at
  zero_at_is i j t = (and_left (ok i j) _ t, zero_is _ (and_right (ok i j) _ t))

  is_zero_at : (i j : ℕ) → Zero n ok working i j → T (zero_at n ok working i j)
  unfolding zero_at
  is_zero_at i j z = both (ok i j) _ z.0 (rw z.1 is_zero_pos)

  -- after the first k rows
  record Begun (k : ℕ) (marks : List ℕ) : Type 0 where
    star : ℕ → ℕ
    row : ℕ → ℕ
    shows : Shows n star (λ i. n) marks
    matching : Matching n star row
    zeros : (i : ℕ) → i < n → star i < n → Zero n ok working i (star i)
    later : (i : ℕ) → k ≤ i → n ≤ star i
    one : 0 < k → (j : ℕ) → j < n → Zero n ok working 0 j → star 0 < n

  begun_row : (k : ℕ) (marks : List ℕ) → k < n → Begun k marks → Begun (suc k) (star_row n ok working k marks)
  unfolding star_row free_zero
  begun_row k marks hk b =
      cond_ind (Begun (suc k)) (ltb j n) (set marks (k * n + j) 1) marks (λ t. here (ltb→lt j n t)) (λ t. none (nltb→le j n t))
    where
      j : ℕ
      j = free_zero n ok working marks k

      free : ℕ → Bool
      free a = zero_at n ok working k a && not (ltb (star_in_column n marks a) n)

      here : j < n → Begun (suc k) (set marks (k * n + j) 1)
      here h =
          let t : T (free j) = (first_is free n).hit h in
          let z = zero_at_is k j (and_left (zero_at n ok working k j) _ t) in
          let c : n ≤ b.row j = omega (arith, nltb→le (star_in_column n marks j) n (and_right (zero_at n ok working k j) _ t), find_row b.shows b.row b.matching j h) in
          let bare : n ≤ b.star k = b.later k (omega arith) in
          record {
            star = put b.star k j;
            row = put b.row j k;
            shows = show_starred n b.star (λ i. n) marks k j hk h (show_bare n b.star (λ i. n) marks k bare b.shows);
            matching = none_apart n _ _ _ c (moved n b.star b.row k j hk h (starless n b.star b.row k bare b.matching));
            zeros = λ i hi. put_case (λ x. x < n → Zero n ok working i x) b.star k j i (λ e s. rw e z) (λ ne. b.zeros i hi);
            later = λ i l. rw (put_off b.star k j i (omega arith)) (b.later i (omega arith));
            one = λ p j₀ h₀ z₀. put_case (λ x. x < n) b.star k j 0 (λ e. h) (λ ne. b.one (omega arith) j₀ h₀ z₀);
          }

      none : n ≤ j → Begun (suc k) marks
      none l = record {
        star = b.star;
        row = b.row;
        shows = b.shows;
        matching = b.matching;
        zeros = b.zeros;
        later = λ i h. b.later i (omega arith);
        one = λ p j₀ h₀ z₀. dite (ℕ_discrete k 0)
            (λ e.
            -- no column has a star yet
            let bare : n ≤ b.row j₀ =
            dite (dec_lt (b.row j₀) n) (λ h. absurd (omega (arith, b.later (b.row j₀) (omega arith), (b.matching.back j₀ h₀ h).1))) (λ h. omega arith) in
            let empty : T (not (ltb (star_in_column n marks j₀) n)) = not_T (ltb (star_in_column n marks j₀) n) (λ t. omega (arith, ltb→lt (star_in_column n marks j₀) n t, find_row b.shows b.row b.matching j₀ h₀)) in
            let before : T (not (free j₀)) = (first_is free n).before j₀ (omega arith) in
            absurd (T_not (free j₀) before (both (zero_at n ok working k j₀) _ (is_zero_at k j₀ (rw e z₀)) empty)))
            (λ ne. b.one (omega arith) j₀ h₀ z₀);
      }

  begun : (k : ℕ) → k ≤ n → Begun k (step2 n ok working (square (λ i j. 0) n) k)
  unfolding step2
  begun zero h = record {
    star = λ i. n;
    row = λ j. n;
    shows = show_none n;
    matching = record { there = λ i hi ne h. absurd (omega arith); back = λ j hj h. absurd (omega arith) };
    zeros = λ i hi h. absurd (omega arith);
    later = λ i h. omega arith;
    one = λ p. absurd (omega arith);
  }
  begun (suc k) h = begun_row k _ h (begun k (omega arith))

  pub starred : Starred n ok working (step2 n ok working (square (λ i j. 0) n) n)
  starred = let b = begun n (omega arith) in record { star = b.star; row = b.row; shows = b.shows; matching = b.matching; zeros = b.zeros }

  pub one_star : 0 < n → (j : ℕ) → j < n → Zero n ok working 0 j → 0 < star_count n (step2 n ok working (square (λ i j. 0) n) n)
  one_star p j hj z =
      let b = begun n (omega arith) in
      omega (arith, find_count b.shows, count_pos (has_star n b.star) n 0 p (lt→ltb _ n (b.one p j hj z)))

pub sound_start : (n : ℕ) (ok : ℕ → ℕ → Bool) (cost : ℕ → ℕ → ℤ) → Sound n ok (start n ok cost)
unfolding start
sound_start n ok cost = record { at_next = (starred n ok (square (excess n ok cost) n), refl) }
