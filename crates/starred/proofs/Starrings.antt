-- Step 2 on the arrays: after k rows they are what the definition's marks show.
use mathlib.Core.Path.{◌≡◌, sym, ap, ◌∙◌}
use mathlib.Core.Logic.{dite, ite}
use mathlib.Core.Bool.{Bool, true, not, cond, ◌&&◌}
use mathlib.Core.List.{List}
use Prim.Native.Nat.{ℕ, ◌+◌, ◌*◌, ◌≤◌, ◌<◌, min}
use native.Mathlib.Numerals.{add-one}
use native.Mathlib.Decide.{ℕ_discrete}
use native.Mathlib.Omega.{arith}
use borrow.Author.Tests.{lt-ltb, le-ltb, ltb-false}
use lib.Dec.{ltb}
use lib.IntN.{ℤ, pos, ◌-ℤ◌}
use lib.ListN.{length, get_or, set, length-set}
use Rattle.lines.specs.First.{first}
use Rattle.lines.specs.Square.{table, square}
use Rattle.lines.specs.Sets.{has, with}
use Rattle.lines.specs.Put.{put}
use Rattle.lines.proofs.Tests.{T_false, and_same, and_right}
use Rattle.lines.proofs.Puts.{put_at, put_off, put_case}
use Rattle.lines.proofs.Firsts.{first_ext, first_is, ltb_min}
use Rattle.lines.proofs.Sets.{has_empty, with_put}
use Rattle.lines.proofs.Squares.{set_put, table_all, length_table, get_or_inside, square_at}
use Rattle.steps.specs.Steps.{is_zero, star_in_row, star_in_column, row_price, excess, zero_at, free_zero, star_row, step2}
use Rattle.steps.specs.Going.{Matching, mark, Shows}
use Rattle.steps.proofs.Matching.{moved, none_apart, starless}
use Rattle.steps.proofs.Marks.{show_none, show_starred, show_bare, find_star, find_row}
use Rattle.steps.proofs.Priced.{excess_allowed}

-- functions that agree
shows_ext : {n : ℕ} {f p : ℕ → ℕ} {marks : List ℕ} (g : ℕ → ℕ) → ((a : ℕ) → f a ≡ g a) → Shows n f p marks → Shows n g p marks
unfolding mark
shows_ext {p = p} g e s = record { size = s.size; marked = λ a b hb. s.marked a b hb ∙ ap (λ x. ite (ℕ_discrete x b) 1 (ite (ℕ_discrete (p a) b) 2 0)) (e a) }

matching_ext : {n : ℕ} {f r : ℕ → ℕ} (g s : ℕ → ℕ) → ((a : ℕ) → f a ≡ g a) → ((b : ℕ) → r b ≡ s b) → Matching n f r → Matching n g s
matching_ext {n} {f} {r} g s e d m = record {
  there = λ i hi ne l. let q = m.there i hi ne (rw (e i) l) in sym (d (g i)) ∙ ap r (sym (e i)) ∙ q;
  back = λ j hj l. let q = m.back j hj (rw (d j) l) in ((λ x. q.0 (d j ∙ x)), sym (e (s j)) ∙ ap f (sym (d j)) ∙ q.1);
}

module _ (n : ℕ) (ok : ℕ → ℕ → Bool) (working : List ℤ) where
  abbrev marks_at : ℕ → List ℕ
  marks_at k = step2 n ok working (square (λ i j. 0) n) k

  pub record Starring (star owner : List ℕ) (taken k : ℕ) : Type 0 where
    pub star_long : n ≤ length star
    pub owner_long : n ≤ length owner
    pub shows : Shows n (λ i. get_or star i n) (λ i. n) (marks_at k)
    pub matching : Matching n (λ i. get_or star i n) (λ j. get_or owner j n)
    pub later : (i : ℕ) → k ≤ i → n ≤ get_or star i n
    pub star_most : (i : ℕ) → get_or star i n ≤ n
    pub owner_most : (j : ℕ) → get_or owner j n ≤ n
    pub held : (j : ℕ) → has taken j ≡ ltb (get_or owner j n) n

  pub starring_none : (a b : ℕ) {star owner : List ℕ} → n ≤ a → n ≤ b → star ≡ table (λ k. n) a → owner ≡ table (λ k. n) b → Starring star owner 0 0
  unfolding step2
  starring_none a b {star} {owner} ha hb es eo = record {
    star_long = rw (es, length_table (λ k. n) a) ha;
    owner_long = rw (eo, length_table (λ k. n) b) hb;
    shows = shows_ext _ (λ i. sym (s i)) (show_none n);
    matching = record { there = λ i hi ne l. absurd (omega (arith, s i)); back = λ j hj l. absurd (omega (arith, o j)) };
    later = λ i h. omega (arith, s i);
    star_most = λ i. omega (arith, s i);
    owner_most = λ j. omega (arith, o j);
    held = λ j. has_empty j ∙ sym (le-ltb (get_or owner j n) n (omega (arith, o j)));
  }
    where
      s : (i : ℕ) → get_or star i n ≡ n
      s i = rw es (table_all n a i)

      o : (j : ℕ) → get_or owner j n ≡ n
      o j = rw eo (table_all n b j)

  module _ {star owner : List ℕ} {taken k : ℕ} (s : Starring star owner taken k) where
    -- the column that the code finds is the definition's
    found : {c : ℕ} → c ≡ first (λ j. zero_at n ok working k j && not (has taken j)) n → free_zero n ok working (marks_at k) k ≡ c
    unfolding free_zero
    found {c} e =
        first_ext _ _ n (λ j hj. ap (λ b. zero_at n ok working k j && not b) (ap (λ x. ltb x n) (find_row s.shows _ s.matching j hj) ∙ ltb_min (get_or owner j n) n ∙ sym (s.held j))) ∙ sym e

    more : {c : ℕ} → c ≡ first (λ j. zero_at n ok working k j && not (has taken j)) n → marks_at (k + 1) ≡ cond (ltb c n) (set (marks_at k) (k * n + c) 1) (marks_at k)
    unfolding step2 star_row
    more {c} e = ap marks_at (add-one k) ∙ rw (found e)

    pub starring_skip : {c : ℕ} → c ≡ first (λ j. zero_at n ok working k j && not (has taken j)) n → n ≤ c → Starring star owner taken (k + 1)
    starring_skip {c} e h = record {
      star_long = s.star_long;
      owner_long = s.owner_long;
      shows = rw (more e, le-ltb c n h) s.shows;
      matching = s.matching;
      later = λ i l. s.later i (omega arith);
      star_most = s.star_most;
      owner_most = s.owner_most;
      held = s.held;
    }

    pub starring_star : {c : ℕ} → c ≡ first (λ j. zero_at n ok working k j && not (has taken j)) n → k < n → c < n → Starring (set star k c) (set owner c k) (with taken c) (k + 1)
    starring_star {c} e hk hc = record {
      star_long = rw (length-set star k c) s.star_long;
      owner_long = rw (length-set owner c k) s.owner_long;
      shows =
          rw (more e, lt-ltb c n hc)
          (shows_ext _ (λ a. sym (star_put a))
          (show_starred n (λ i. get_or star i n) (λ i. n) (marks_at k) k c hk hc (show_bare n (λ i. get_or star i n) (λ i. n) (marks_at k) k (s.later k (omega arith)) s.shows)));
      matching =
          matching_ext _ _ (λ a. sym (star_put a)) (λ b. sym (owner_put b))
          (none_apart n _ _ (get_or owner c n) free
          (moved n (λ i. get_or star i n) (λ j. get_or owner j n) k c hk hc (starless n (λ i. get_or star i n) (λ j. get_or owner j n) k (s.later k (omega arith)) s.matching)));
      later = λ i l. rw (star_put i) (put_case (λ x. n ≤ x) (λ y. get_or star y n) k c i (λ q. absurd (omega arith)) (λ ne. s.later i (omega arith)));
      star_most = λ i. rw (star_put i) (put_case (λ x. x ≤ n) (λ y. get_or star y n) k c i (λ q. omega arith) (λ ne. s.star_most i));
      owner_most = λ j. rw (owner_put j) (put_case (λ x. x ≤ n) (λ y. get_or owner y n) c k j (λ q. omega arith) (λ ne. s.owner_most j));
      held = λ j. with_put taken c j ∙ dite (ℕ_discrete j c)
          (λ q. put_at (has taken) c true j q ∙ sym (ap (λ x. ltb x n) (owner_put j ∙ put_at (λ y. get_or owner y n) c k j q) ∙ lt-ltb k n hk))
          (λ ne. put_off (has taken) c true j ne ∙ s.held j ∙ ap (λ x. ltb x n) (sym (owner_put j ∙ put_off (λ y. get_or owner y n) c k j ne)));
    }
      where
        star_put : (a : ℕ) → get_or (set star k c) a n ≡ put (λ y. get_or star y n) k c a
        star_put a = set_put n star k c a (omega (arith, s.star_long))

        owner_put : (b : ℕ) → get_or (set owner c k) b n ≡ put (λ y. get_or owner y n) c k b
        owner_put b = set_put n owner c k b (omega (arith, s.owner_long))

        free : n ≤ get_or owner c n
        free =
            let f = first_is (λ j. zero_at n ok working k j && not (has taken j)) n in
            let t = rw (← e) at (f.hit (rw (← e) hc)) in
            ltb-false _ n (sym (s.held c) ∙ T_false (has taken c) (and_right (zero_at n ok working k c) _ t))

  -- at the end the arrays are what the searches find
  pub starring_all : {star owner : List ℕ} {taken : ℕ} → Starring star owner taken n
      → ((i : ℕ) → i < n → get_or star i 0 ≡ star_in_row n (marks_at n) i) × ((j : ℕ) → j < n → get_or owner j 0 ≡ star_in_column n (marks_at n) j)
  starring_all {star} {owner} s = (
    λ i hi. get_or_inside 0 n star i (omega (arith, s.star_long)) ∙ (let m = s.star_most i in let q : get_or star i n ≡ min (get_or star i n) n = omega arith in q) ∙ sym (find_star s.shows i),
    λ j hj. get_or_inside 0 n owner j (omega (arith, s.owner_long)) ∙ (let m = s.owner_most j in let q : get_or owner j n ≡ min (get_or owner j n) n = omega arith in q) ∙ sym (find_row s.shows _ s.matching j hj),
  )

-- a zero by costs is a zero of the working values that step 1 leaves
pub zero_by_cost : (n : ℕ) (ok : ℕ → ℕ → Bool) (cost : ℕ → ℕ → ℤ) (i j : ℕ) → i < n → j < n
    → (ok i j && is_zero (cost i j -ℤ row_price n ok cost i)) ≡ zero_at n ok (square (excess n ok cost) n) i j
unfolding zero_at
zero_by_cost n ok cost i j hi hj =
    and_same (ok i j) _ _ (λ t. ap is_zero (sym (square_at (pos 0) (excess n ok cost) n i j hi hj ∙ excess_allowed n ok cost i j t)))

-- so the column that the code finds by costs is the one by working values
pub found_by_cost : (n : ℕ) (ok : ℕ → ℕ → Bool) (cost : ℕ → ℕ → ℤ) (i taken : ℕ) {c : ℕ} (price : ℤ) → i < n → price ≡ row_price n ok cost i
    → c ≡ first (λ j. (ok i j && is_zero (cost i j -ℤ price)) && not (has taken j)) n
    → c ≡ first (λ j. zero_at n ok (square (excess n ok cost) n) i j && not (has taken j)) n
found_by_cost n ok cost i taken price hi e f =
    f ∙ first_ext _ _ n (λ j hj. ap (λ b. b && not (has taken j)) (ap (λ p. ok i j && is_zero (cost i j -ℤ p)) e ∙ zero_by_cost n ok cost i j hi hj))
