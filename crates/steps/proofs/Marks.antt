-- The marks as stars and primes: what a store does to them, and what the searches find.
use mathlib.Core.Path.{◌≡◌, refl, sym, ap, ◌∙◌}
use mathlib.Core.Logic.{◌≢◌, dite, ◌⊎◌, inl, inr, ite, if_pos, if_neg}
use mathlib.Core.List.{List}
use mathlib.Core.Bool.{cond}
use Prim.Native.Nat.{ℕ, ◌+◌, ◌*◌, ◌≤◌, ◌<◌, min}
use native.Mathlib.Decide.{ℕ_discrete}
use native.Mathlib.Omega.{arith}
use lib.Dec.{eqb, eqb→eq, ltb}
use lib.ListN.{set, length-set}
use Rattle.lines.specs.Count.{count}
use Rattle.lines.specs.Square.{cell, square}
use Rattle.lines.proofs.Tests.{eqb_yes}
use Rattle.lines.specs.Put.{put}
use Rattle.lines.proofs.Puts.{put_at, put_off, put2_case}
use Rattle.lines.proofs.Counts.{count_ext}
use Rattle.lines.proofs.Firsts.{first_only, ltb_min}
use Rattle.lines.proofs.Squares.{cell_set, length_each, each_cell, length_square, square_all}
use Rattle.steps.specs.Going.{mark, Shows, Matching, has_star}
use Rattle.steps.specs.Steps.{star_in_row, star_in_column, prime_in_row, star_count, clear_primes}

module _ (star prime : ℕ → ℕ) (i j : ℕ) where
  pub mark_star : star i ≡ j → mark star prime i j ≡ 1
  unfolding mark
  mark_star e = if_pos (ℕ_discrete (star i) j) e 1 _

  pub mark_prime : star i ≢ j → prime i ≡ j → mark star prime i j ≡ 2
  unfolding mark
  mark_prime ne e = if_neg (ℕ_discrete (star i) j) ne 1 _ ∙ if_pos (ℕ_discrete (prime i) j) e 2 0

  pub mark_none : star i ≢ j → prime i ≢ j → mark star prime i j ≡ 0
  unfolding mark
  mark_none ne nf = if_neg (ℕ_discrete (star i) j) ne 1 _ ∙ if_neg (ℕ_discrete (prime i) j) nf 2 0

  -- and read back
  pub mark_is_star : mark star prime i j ≡ 1 → star i ≡ j
  mark_is_star m = dite (ℕ_discrete (star i) j) (λ e. e) (λ ne. dite (ℕ_discrete (prime i) j) (λ e. omega (arith, mark_prime ne e)) (λ nf. omega (arith, mark_none ne nf)))

  pub mark_is_prime : mark star prime i j ≡ 2 → prime i ≡ j
  mark_is_prime m = dite (ℕ_discrete (prime i) j) (λ e. e) (λ nf. dite (ℕ_discrete (star i) j) (λ e. omega (arith, mark_star e)) (λ ne. omega (arith, mark_none ne nf)))

-- a row whose star moves between columns other than b keeps its mark at b
mark_cong : (prime s t : ℕ → ℕ) (a b : ℕ) → (s a ≡ t a) ⊎ ((s a ≢ b) × (t a ≢ b)) → mark s prime a b ≡ mark t prime a b
unfolding mark
mark_cong prime s t a b (inl e) = ap (λ x. ite (ℕ_discrete x b) 1 (ite (ℕ_discrete (prime a) b) 2 0)) e
mark_cong prime s t a b (inr d) = if_neg (ℕ_discrete (s a) b) d.0 1 _ ∙ sym (if_neg (ℕ_discrete (t a) b) d.1 1 _)

-- row v's star leaves column x for column y
shift : (s : ℕ → ℕ) (v x y a b : ℕ) → (a ≡ v → (x ≢ b) × (y ≢ b)) → (put s v x a ≡ put s v y a) ⊎ ((put s v x a ≢ b) × (put s v y a ≢ b))
shift s v x y a b d =
    dite (ℕ_discrete a v)
    (λ e. inr (rw (put_at s v x a e, put_at s v y a e) (d e)))
    (λ ne. inl (put_off s v x a ne ∙ sym (put_off s v y a ne)))

pub show_none : (n : ℕ) → Shows n (λ i. n) (λ i. n) (square (λ i j. 0) n)
show_none n = record { size = length_square (λ i j. 0) n; marked = λ a b hb. square_all 0 n a b ∙ sym (mark_none (λ i. n) (λ i. n) a b (omega arith) (omega arith)) }

module _ (n : ℕ) (star prime : ℕ → ℕ) (marks : List ℕ) (i j : ℕ) (hi : i < n) (hj : j < n) where
  -- row i has no star, and gets one at j
  pub show_starred : Shows n (put star i n) prime marks → Shows n (put star i j) prime (set marks (i * n + j) 1)
  show_starred s = record {
    size = length-set marks (i * n + j) 1 ∙ s.size;
    marked = λ a b hb. cell_set 0 n marks i j 1 a b s.size hi hj hb ∙ put2_case (λ x. x ≡ mark (put star i j) prime a b) (cell 0 n marks) i j 1 a b
        (λ ea eb. sym (mark_star (put star i j) prime a b (put_at star i j a ea ∙ sym eb)))
        (λ d. s.marked a b hb ∙ mark_cong prime (put star i n) (put star i j) a b (shift star i n j a b (λ e. (omega arith, λ q. d e (sym q)))));
  }

  -- row i has its star at j and no prime there, and the star goes
  pub show_unstarred : star i ≡ j → prime i ≢ j → Shows n star prime marks → Shows n (put star i n) prime (set marks (i * n + j) 0)
  show_unstarred e p s = record {
    size = length-set marks (i * n + j) 0 ∙ s.size;
    marked = λ a b hb. cell_set 0 n marks i j 0 a b s.size hi hj hb ∙ put2_case (λ x. x ≡ mark (put star i n) prime a b) (cell 0 n marks) i j 0 a b
        (λ ea eb. sym (mark_none (put star i n) prime a b (λ q. omega (arith, put_at star i n a ea)) (λ q. p (cc))))
        (λ d. s.marked a b hb ∙ mark_cong prime star (put star i n) a b (dite (ℕ_discrete a i)
        (λ ea. inr ((λ q. d ea (cc)), λ q. omega (arith, put_at star i n a ea)))
        (λ ne. inl (sym (put_off star i n a ne)))));
  }

  -- row i has no prime and no star at j, and gets a prime there
  pub show_primed : n ≤ prime i → star i ≢ j → Shows n star prime marks → Shows n star (put prime i j) (set marks (i * n + j) 2)
  unfolding mark
  show_primed new off s = record {
    size = length-set marks (i * n + j) 2 ∙ s.size;
    marked = λ a b hb. cell_set 0 n marks i j 2 a b s.size hi hj hb ∙ put2_case (λ x. x ≡ mark star (put prime i j) a b) (cell 0 n marks) i j 2 a b
        (λ ea eb. sym (mark_prime star (put prime i j) a b (λ q. off (cc)) (put_at prime i j a ea ∙ sym eb)))
        (λ d. s.marked a b hb ∙ dite (ℕ_discrete (star a) b)
        (λ e. mark_star star prime a b e ∙ sym (mark_star star (put prime i j) a b e))
        (λ ne. dite (ℕ_discrete a i)
        (λ ea. mark_none star prime a b ne (λ q. omega (arith, ap prime ea)) ∙ sym (mark_none star (put prime i j) a b ne (λ q. d ea (cc (put_at prime i j a ea)))))
        (λ na. ap (λ x. ite (ℕ_discrete (star a) b) 1 (ite (ℕ_discrete x b) 2 0)) (sym (put_off prime i j a na)))));
  }

-- a row without a star has none, whatever number says so
pub show_bare : (n : ℕ) (star prime : ℕ → ℕ) (marks : List ℕ) (i : ℕ) → n ≤ star i → Shows n star prime marks → Shows n (put star i n) prime marks
show_bare n star prime marks i h s = record {
  size = s.size;
  marked = λ a b hb. s.marked a b hb ∙ mark_cong prime star (put star i n) a b (dite (ℕ_discrete a i)
      (λ e. inr ((λ q. omega (arith, ap star e)), λ q. omega (arith, put_at star i n a e)))
      (λ ne. inl (sym (put_off star i n a ne))));
}

-- a prime goes, and what is no prime stays
pub show_cleared : (n : ℕ) (star prime : ℕ → ℕ) (marks : List ℕ) → Shows n star prime marks → Shows n star (λ i. n) (clear_primes marks)
unfolding clear_primes
show_cleared n star prime marks s = record {
  size = length_each _ marks ∙ s.size;
  marked = λ a b hb. each_cell 0 (λ q m. cond (eqb m 2) 0 m) marks (a * n + b) refl ∙ rw (s.marked a b hb)
      (dite (ℕ_discrete (star a) b)
      (λ e. rw (mark_star star prime a b e, mark_star star (λ i. n) a b e))
      (λ ne. rw (mark_none star (λ i. n) a b ne (omega arith))
      (dite (ℕ_discrete (prime a) b)
      (λ e. rw (mark_prime star prime a b ne e))
      (λ nf. rw (mark_none star prime a b ne nf)))));
}

-- ---- what the searches find

module _ {n : ℕ} {star prime : ℕ → ℕ} {marks : List ℕ} (s : Shows n star prime marks) where
  pub find_star : (i : ℕ) → star_in_row n marks i ≡ min (star i) n
  unfolding star_in_row
  find_star i =
      first_only _ n (star i)
      (λ h. eqb_yes _ 1 (s.marked i (star i) h ∙ mark_star star prime i (star i) refl))
      (λ j hj t. sym (mark_is_star star prime i j (sym (s.marked i j hj) ∙ eqb→eq _ 1 t)))

  pub find_prime : (i : ℕ) → (prime i < n → star i ≢ prime i) → prime_in_row n marks i ≡ min (prime i) n
  unfolding prime_in_row
  find_prime i d =
      first_only _ n (prime i)
      (λ h. eqb_yes _ 2 (s.marked i (prime i) h ∙ mark_prime star prime i (prime i) (d h) refl))
      (λ j hj t. sym (mark_is_prime star prime i j (sym (s.marked i j hj) ∙ eqb→eq _ 2 t)))

  pub find_row : (row : ℕ → ℕ) → Matching n star row → (j : ℕ) → j < n → star_in_column n marks j ≡ min (row j) n
  unfolding star_in_column
  find_row row q j hj =
      first_only _ n (row j)
      (λ h. eqb_yes _ 1 (s.marked (row j) j hj ∙ mark_star star prime (row j) j (q.back j hj h).1))
      (λ i hi t.
      let e : star i ≡ j = mark_is_star star prime i j (sym (s.marked i j hj) ∙ eqb→eq _ 1 t) in
      cc (q.there i hi (omega arith) (omega arith)))

  -- how many there are
  pub find_count : star_count n marks ≡ count (has_star n star) n
  unfolding star_count
  find_count = count_ext _ _ n (λ i h. ap (λ x. ltb x n) (find_star i) ∙ ltb_min (star i) n)
