-- Law D. The arrays of stars and primes through steps 4 and 5, and the marks that they show.
use mathlib.Core.Path.{◌≡◌, sym, ap, ◌∙◌}
use mathlib.Core.Logic.{◌≢◌, dite}
use mathlib.Core.Bool.{Bool, cond}
use mathlib.Core.List.{List}
use Prim.Native.Nat.{ℕ, ◌+◌, ◌*◌, ◌<◌, min}
use native.Mathlib.Decide.{ℕ_discrete}
use native.Mathlib.Omega.{arith}
use borrow.Author.Tests.{eq-eqb, ne_eqb}
use lib.Dec.{eqb}
use lib.IntN.{ℤ}
use lib.ListN.{get_or, set, length-set}
use lib.Seq.{ext_get_or}
use Rattle.lines.specs.Square.{cell, square}
use Rattle.lines.specs.Put.{put}
use Rattle.lines.proofs.Puts.{put_at, put_off, put_case}
use Rattle.lines.proofs.Squares.{set_put, place_in, place_back, length_square, square_at}
use Rattle.steps.specs.Steps.{star_in_row, star_in_column, prime_in_row}
use Rattle.steps.specs.Going.{OpenZero, Shows, Search}
use Rattle.steps.proofs.Marks.{mark_star, mark_prime, mark_none, find_star, find_row, find_prime}
use Rattle.steps.proofs.Phase.{open_off, star_off}
use Rattle.steps.proofs.Search.{shown}
use Rattle.quick.specs.Shown.{Lines}
use Rattle.starred.specs.Written.{marks_of}

-- ---- the marks are what the arrays show

module _ {n : ℕ} {star₁ prime₁ : ℕ → ℕ} {marks star owner prime : List ℕ} (shows : Shows n star₁ prime₁ marks)
    (off : (i : ℕ) → i < n → prime₁ i < n → star₁ i ≢ prime₁ i) (l : Lines n marks star owner prime) where
  cell_is : (i j : ℕ) → i < n → j < n → cell 0 n marks i j ≡ cond (eqb (get_or star i 0) j) 1 (cond (eqb (get_or prime i 0) j) 2 0)
  cell_is i j hi hj =
      let s : get_or star i 0 ≡ min (star₁ i) n = l.star_is i hi ∙ find_star shows i in
      let p : get_or prime i 0 ≡ min (prime₁ i) n = l.prime_is i hi ∙ find_prime shows i (off i hi) in
      shows.marked i j hj ∙ dite (ℕ_discrete (star₁ i) j)
      (λ e. mark_star star₁ prime₁ i j e ∙ rw (eq-eqb (get_or star i 0) j (omega arith)))
      (λ ne. rw (ne_eqb (get_or star i 0) j (λ q. ne (omega arith))) (dite (ℕ_discrete (prime₁ i) j)
      (λ e. mark_prime star₁ prime₁ i j ne e ∙ rw (eq-eqb (get_or prime i 0) j (omega arith)))
      (λ nf. mark_none star₁ prime₁ i j ne nf ∙ rw (ne_eqb (get_or prime i 0) j (λ q. nf (omega arith))))))

  pub marks_shown : marks ≡ marks_of n star prime
  unfolding marks_of
  marks_shown =
      ext_get_or 0 marks _ (shows.size ∙ sym (length_square _ n)) (λ q h.
      let b : q < n * n = omega (arith, shows.size) in
      let p = place_in n q b in
      let e = place_back n q in
      let f : ℕ → ℕ → ℕ = λ i j. cond (eqb (get_or star i 0) j) 1 (cond (eqb (get_or prime i 0) j) 2 0) in
      ap (λ x. get_or marks x 0) (sym e) ∙ cell_is _ _ p.0 p.1 ∙ sym (square_at 0 _ n _ _ p.0 p.1) ∙ ap (λ x. get_or (square f n) x 0) e)

-- ---- step 4: a prime more

module _ {n : ℕ} {ok : ℕ → ℕ → Bool} {working : List ℤ} {marks : List ℕ} {rows columns : ℕ} (s : Search n ok working marks rows columns)
    (i j : ℕ) (z : OpenZero n ok working rows columns i j) where
  abbrev marked : List ℕ
  marked = set marks (i * n + j) 2

  -- no star came or went
  pub same_star : (a : ℕ) → star_in_row n marked a ≡ star_in_row n marks a
  same_star a = find_star (shown n ok s i j z) a ∙ sym (find_star s.shows a)

  pub same_owner : (b : ℕ) → b < n → star_in_column n marked b ≡ star_in_column n marks b
  same_owner b hb = find_row (shown n ok s i j z) s.row s.phase.matching b hb ∙ sym (find_row s.shows s.row s.phase.matching b hb)

  off : (a : ℕ) → a < n → put s.prime i j a < n → s.star a ≢ put s.prime i j a
  off a ha = put_case (λ x. x < n → s.star a ≢ x) s.prime i j a
      (λ e h q. open_off s.phase i j z.row_below z.column_below z.is_open.row z.is_open.column (ap s.star (sym e) ∙ q))
      (λ ne h. star_off s.phase a ha h)

  new_prime : (a : ℕ) → a < n → prime_in_row n marked a ≡ put (prime_in_row n marks) i j a
  new_prime a ha =
      find_prime (shown n ok s i j z) a (off a ha) ∙ dite (ℕ_discrete a i)
      (λ e. ap (λ x. min x n) (put_at s.prime i j a e) ∙ (let h = z.column_below in let q : min j n ≡ j = omega arith in q) ∙ sym (put_at (prime_in_row n marks) i j a e))
      (λ ne. ap (λ x. min x n) (put_off s.prime i j a ne) ∙ sym (find_prime s.shows a (star_off s.phase a ha)) ∙ sym (put_off (prime_in_row n marks) i j a ne))

  pub lines_primed : {star owner prime : List ℕ} → Lines n marks star owner prime → Lines n marked star owner (set prime i j)
  lines_primed {star} {owner} {prime} l = record {
    star_long = l.star_long;
    owner_long = l.owner_long;
    prime_long = rw (length-set prime i j) l.prime_long;
    star_is = λ a ha. l.star_is a ha ∙ sym (same_star a);
    owner_is = λ b hb. l.owner_is b hb ∙ sym (same_owner b hb);
    prime_is = λ a ha. set_put 0 prime i j a (omega (arith, l.prime_long, z.row_below)) ∙ dite (ℕ_discrete a i)
        (λ e. put_at (λ y. get_or prime y 0) i j a e ∙ sym (put_at (prime_in_row n marks) i j a e))
        (λ ne. put_off (λ y. get_or prime y 0) i j a ne ∙ l.prime_is a ha ∙ sym (put_off (prime_in_row n marks) i j a ne)) ∙ sym (new_prime a ha);
  }
