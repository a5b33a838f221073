-- The marks that are written at the end: an empty square, and in each row a prime and a star.
use mathlib.Core.Path.{◌≡◌, refl, sym, ap, ◌∙◌}
use mathlib.Core.Logic.{◌≢◌, dite}
use mathlib.Core.Bool.{cond}
use mathlib.Core.List.{List}
use Prim.Native.Nat.{ℕ, ◌+◌, ◌*◌, ◌≤◌, ◌<◌}
use native.Mathlib.Decide.{ℕ_discrete}
use native.Mathlib.Omega.{arith}
use borrow.Author.Tests.{eq-eqb, ne_eqb, ltb-true, ltb-false}
use lib.Dec.{ltb, eqb}
use lib.ListN.{length, get_or, length-set}
use lib.Seq.{ext_get_or}
use Rattle.lines.specs.Square.{cell, square, table}
use Rattle.lines.proofs.Tests.{by_cases}
use Rattle.lines.proofs.Puts.{put2_at, put2_off}
use Rattle.lines.proofs.Squares.{place_in, place_back, cell_set, length_table, length_square, square_at, table_all}
use Rattle.starred.specs.Written.{marks_of, with_mark}

-- ---- one mark more

module _ (n row column mark : ℕ) (marks : List ℕ) (size : length marks ≡ n * n) (below : row < n) where
  pub with_mark_long : length (with_mark n row column mark marks) ≡ n * n
  unfolding with_mark
  with_mark_long = by_cases (ltb column n) (λ e. rw e (length-set marks (row * n + column) mark ∙ size)) (λ e. rw e size)

  pub with_mark_here : (b : ℕ) → b < n → cell 0 n (with_mark n row column mark marks) row b ≡ cond (eqb column b) mark (cell 0 n marks row b)
  unfolding with_mark
  with_mark_here b hb = by_cases (ltb column n)
      (λ e. let hc = ltb-true column n e in
      rw e (cell_set 0 n marks row column mark row b size below hc hb ∙ dite (ℕ_discrete column b)
      (λ q. put2_at (cell 0 n marks) row column mark row b refl (sym q) ∙ rw (eq-eqb column b q))
      (λ ne. put2_off (cell 0 n marks) row column mark row b (λ p q. ne (sym q)) ∙ rw (ne_eqb column b ne))))
      (λ e. rw (e, ne_eqb column b (λ q. omega (arith, ltb-false column n e))))

  pub with_mark_off : (a b : ℕ) → a ≢ row → b < n → cell 0 n (with_mark n row column mark marks) a b ≡ cell 0 n marks a b
  unfolding with_mark
  with_mark_off a b ne hb = by_cases (ltb column n)
      (λ e. rw e (cell_set 0 n marks row column mark a b size below (ltb-true column n e) hb ∙ put2_off (cell 0 n marks) row column mark a b (λ p. absurd (ne p))))
      (λ e. rw e)

-- ---- row by row

module _ (n : ℕ) (star prime : List ℕ) where
  abbrev mark_at : ℕ → ℕ → ℕ
  mark_at i j = cond (eqb (get_or star i 0) j) 1 (cond (eqb (get_or prime i 0) j) 2 0)

  -- after k rows
  pub record Marking (marks : List ℕ) (k : ℕ) : Type 0 where
    pub size : length marks ≡ n * n
    pub done : (i j : ℕ) → i < k → j < n → cell 0 n marks i j ≡ mark_at i j
    pub left : (i j : ℕ) → k ≤ i → j < n → cell 0 n marks i j ≡ 0

  pub marking_none : {marks : List ℕ} (places : ℕ) → places ≡ n * n → marks ≡ table (λ k. 0) places → Marking marks 0
  marking_none places s e = rw e (record {
    size = length_table (λ k. 0) places ∙ s;
    done = λ i j l h. absurd (omega arith);
    left = λ i j l h. table_all 0 places (i * n + j);
  })

  pub marking_more : {marks : List ℕ} (marks' marks'' : List ℕ) (k : ℕ) → k < n → marks' ≡ with_mark n k (get_or prime k 0) 2 marks → marks'' ≡ with_mark n k (get_or star k 0) 1 marks'
      → Marking marks k → Marking marks'' (k + 1)
  marking_more {marks} marks' marks'' k h e f m = record {
    size = ap length f ∙ with_mark_long n k s 1 marks' size' h;
    done = λ i j l hj. dite (ℕ_discrete i k) (λ q. rw q (here j hj)) (λ ne. off i j ne hj ∙ m.done i j (omega arith) hj);
    left = λ i j l hj. off i j (λ q. omega arith) hj ∙ m.left i j (omega arith) hj;
  }
    where
      s : ℕ
      s = get_or star k 0

      p : ℕ
      p = get_or prime k 0

      size' : length marks' ≡ n * n
      size' = ap length e ∙ with_mark_long n k p 2 marks m.size h

      off : (i j : ℕ) → i ≢ k → j < n → cell 0 n marks'' i j ≡ cell 0 n marks i j
      off i j ne hj =
          ap (λ x. cell 0 n x i j) f ∙ with_mark_off n k s 1 marks' size' h i j ne hj
          ∙ ap (λ x. cell 0 n x i j) e ∙ with_mark_off n k p 2 marks m.size h i j ne hj

      here : (j : ℕ) → j < n → cell 0 n marks'' k j ≡ mark_at k j
      here j hj =
          ap (λ x. cell 0 n x k j) f ∙ with_mark_here n k s 1 marks' size' h j hj
          ∙ ap (cond (eqb s j) 1) (ap (λ x. cell 0 n x k j) e ∙ with_mark_here n k p 2 marks m.size h j hj ∙ ap (cond (eqb p j) 2) (m.left k j (omega arith) hj))

  pub marking_all : {marks : List ℕ} {k : ℕ} → n ≤ k → Marking marks k → marks ≡ marks_of n star prime
  unfolding marks_of
  marking_all {marks} h m =
      ext_get_or 0 marks _ (m.size ∙ sym (length_square mark_at n)) (λ q l.
      let b : q < n * n = omega (arith, m.size) in
      let p = place_in n q b in
      let e = place_back n q in
      ap (λ x. get_or marks x 0) (sym e) ∙ m.done _ _ (omega (arith, p.0)) p.1 ∙ sym (square_at 0 mark_at n _ _ p.0 p.1) ∙ ap (λ x. get_or (square mark_at n) x 0) e)
