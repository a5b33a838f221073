-- The search between two augmentations (steps 3, 4 and 6), as facts on stars, primes and covers, whichever zero step 4 takes.
use mathlib.Core.Path.{◌≡◌, sym, ap, ◌∙◌}
use mathlib.Core.Logic.{◌≢◌, dite, ⊎_elim}
use mathlib.Core.Bool.{Bool, true, false, not, ◌&&◌}
use Prim.Native.Nat.{ℕ, suc, ◌+◌, ◌≤◌, ◌<◌}
use native.Mathlib.Decide.{ℕ_discrete}
use native.Mathlib.Omega.{arith}
use lib.Dec.{T, T_not, not_T, ltb→lt, lt→ltb}
use Rattle.lines.specs.Count.{bit, count}
use Rattle.lines.proofs.Tests.{T_or, both, T_yes}
use Rattle.lines.specs.Put.{put}
use Rattle.lines.proofs.Puts.{put_at, put_off, put_case}
use Rattle.lines.proofs.Counts.{count_ext, count_put, count_inj, count_minus, count_pos, count_miss, uncovered, bit_no}
use Rattle.steps.specs.Going.{Phase, Matching, has_star}

-- step 3: nothing primed, no row covered, and the columns that have a star
pub phase_start : (n : ℕ) (Zero : ℕ → ℕ → Type 0) (star row : ℕ → ℕ) (r c : ℕ → Bool) → ((i : ℕ) → i < n → r i ≡ false) → ((j : ℕ) → j < n → c j ≡ has_star n row j)
    → Matching n star row → ((i : ℕ) → i < n → star i < n → Zero i (star i)) → Phase n Zero star row (λ i. n) (λ i. 0) r c
phase_start n Zero star row r c er ec m z = record {
  matching = m;
  stars = z;
  primes = λ i hi p. absurd (omega arith);
  covered = λ i hi t. absurd (rw (er i hi) at t);
  primed = λ i hi p. absurd (omega arith);
  crossed = λ j hj t. let h : row j < n = ltb→lt (row j) n (rw (ec j hj) at t) in (h, rw (er (row j) h) tt);
  crosses = λ j hj h t. rw (ec j hj) (lt→ltb (row j) n h);
  chain = λ i hi p. absurd (omega arith);
  times = λ i hi p. absurd (omega arith);
}

-- covers that agree below n
pub phase_ext : {n : ℕ} {Zero : ℕ → ℕ → Type 0} {star row prime time : ℕ → ℕ} {r c : ℕ → Bool} (r' c' : ℕ → Bool) → ((i : ℕ) → i < n → r' i ≡ r i) → ((j : ℕ) → j < n → c' j ≡ c j)
    → Phase n Zero star row prime time r c → Phase n Zero star row prime time r' c'
phase_ext {n} r' c' er ec s = record {
  matching = s.matching;
  stars = s.stars;
  primes = s.primes;
  covered = λ i hi. rw (er i hi) (s.covered i hi);
  primed = λ i hi. rw (er i hi) (s.primed i hi);
  crossed = λ j hj t. let x = s.crossed j hj (rw (ec j hj) at t) in (x.0, rw (er _ x.0) x.1);
  crosses = λ j hj h t. rw (ec j hj) (s.crosses j hj h (rw (er _ h) at t));
  chain = s.chain;
  times = λ i hi p. rw (count_ext r' _ n er) (s.times i hi p);
}

module _ {n : ℕ} {Zero : ℕ → ℕ → Type 0} {star row prime time : ℕ → ℕ} {r c : ℕ → Bool} (s : Phase n Zero star row prime time r c) where
  -- a prime's column is uncovered
  pub prime_open : (i : ℕ) → i < n → prime i < n → T (not (c (prime i)))
  prime_open i hi pi = not_T (c (prime i)) (λ t.
      let x = s.crossed (prime i) pi t in
      T_not (r (row (prime i))) x.1 (s.primed _ x.0 (s.chain i hi pi x.0).0))

  -- the star in an uncovered column is in a covered row
  pub over : (j : ℕ) → j < n → T (not (c j)) → row j < n → T (r (row j))
  over j hj u h = T_yes (r (row j)) (λ t. T_not (c j) u (s.crosses j hj h t))

  -- a row's star and prime are at different places, and an uncovered cell has no star
  pub star_off : (i : ℕ) → i < n → prime i < n → star i ≢ prime i
  star_off i hi p e =
      let b : row (prime i) ≡ i = ap row (sym e) ∙ s.matching.there i hi (omega arith) (omega arith) in
      omega (arith, (s.chain i hi p (rw b hi)).1, ap time b)

  pub open_off : (i j : ℕ) → i < n → j < n → T (not (r i)) → T (not (c j)) → star i ≢ j
  open_off i j hi hj u v e =
      let b : row j ≡ i = ap row (sym e) ∙ s.matching.there i hi (omega arith) (omega arith) in
      T_not (c j) v (s.crosses j hj (rw b hi) (rw b u))

  -- step 4: an uncovered zero is primed
  module _ (i j : ℕ) (hi : i < n) (hj : j < n) (ui : T (not (r i))) (uj : T (not (c j))) (z : Zero i j) where
    pub new : n ≤ prime i
    new = let f : ¬ (prime i < n) = λ h. T_not (r i) ui (s.primed i hi h) in omega arith

    others : (a : ℕ) → prime a < n → a ≢ i
    others a h e = omega (arith, new, ap prime e)

    -- an earlier row's prime and time are what they were
    kept : (o t : ℕ) → (prime o < n) × (time o < t) → (put prime i j o < n) × (put time i (count r n) o < t)
    kept o t h = rw (put_off prime i j o (others o h.0), put_off time i (count r n) o (others o h.0)) h

    -- also where row i has no star, and step 5 follows
    pub chain' : (a : ℕ) → a < n → put prime i j a < n → row (put prime i j a) < n
        → (put prime i j (row (put prime i j a)) < n) × (put time i (count r n) (row (put prime i j a)) < put time i (count r n) a)
    chain' a ha = dite (ℕ_discrete a i)
        (λ e. rw (put_at prime i j a e, put_at time i (count r n) a e) (λ p h.
        let q = (s.covered (row j) h (over j hj uj h)).1 in kept (row j) (count r n) (q, s.times (row j) h q)))
        (λ ne. rw (put_off prime i j a ne, put_off time i (count r n) a ne) (λ p h. kept (row (prime a)) (time a) (s.chain a ha p h)))

    pub primes' : (a : ℕ) → a < n → put prime i j a < n → Zero a (put prime i j a)
    primes' a ha = put_case (λ x. x < n → Zero a x) prime i j a (λ e p. rw e z) (λ ne p. s.primes a ha p)

    pub one_more : count (put r i true) n ≡ suc (count r n)
    unfolding bit
    one_more = omega (arith, count_put r i true n hi, bit_no (r i) (T_not (r i) ui))

    -- row i has a star: its row is covered and its star's column uncovered
    pub phase_primed : star i < n → Phase n Zero star row (put prime i j) (put time i (count r n)) (put r i true) (put c (star i) false)
    phase_primed hs = record {
      matching = s.matching;
      stars = s.stars;
      primes = primes';
      covered = λ a ha. dite (ℕ_discrete a i)
          (λ e t. (rw e hs, rw (put_at prime i j a e) hj))
          (λ ne. rw (put_off r i true a ne, put_off prime i j a ne) (s.covered a ha));
      primed = λ a ha. dite (ℕ_discrete a i)
          (λ e p. rw (put_at r i true a e) tt)
          (λ ne. rw (put_off r i true a ne, put_off prime i j a ne) (s.primed a ha));
      crossed = λ b hb. dite (ℕ_discrete b (star i))
          (λ e. rw (put_at c (star i) false b e) (λ t. absurd t))
          (λ ne. rw (put_off c (star i) false b ne) (λ t.
          let x = s.crossed b hb t in
          let d : row b ≢ i = λ e. ne (cc (s.matching.back b hb x.0).1) in
          (x.0, rw (put_off r i true (row b) d) x.1)));
      crosses = λ b hb h. dite (ℕ_discrete (row b) i)
          (λ e. rw (put_at r i true (row b) e) (λ t. absurd t))
          (λ ne. rw (put_off r i true (row b) ne) (λ t.
          let d : b ≢ star i = λ e. ne (ap row e ∙ s.matching.there i hi (omega arith) hs) in
          rw (put_off c (star i) false b d) (s.crosses b hb h t)));
      chain = chain';
      times = λ a ha. dite (ℕ_discrete a i)
          (λ e p. rw (put_at time i (count r n) a e) (omega (arith, one_more)))
          (λ ne. rw (put_off time i (count r n) a ne, put_off prime i j a ne) (λ p. omega (arith, one_more, s.times a ha p)));
    }

  -- the rows with a star that are not covered
  left : ℕ → Bool
  left i = has_star n star i && not (r i)

  left_yes : (i : ℕ) → star i < n → T (not (r i)) → T (left i)
  unfolding left
  left_yes i h t = both (has_star n star i) (not (r i)) (lt→ltb (star i) n h) t

  stars_split : count r n + count left n ≡ count (has_star n star) n
  unfolding left
  stars_split = count_minus r (has_star n star) n (λ i hi t. lt→ltb (star i) n (s.covered i hi t).0)

  -- a covered column's star is in a row that is not covered
  crossing : (j : ℕ) → j < n → T (c j) → (row j < n) × T (left (row j))
  crossing j hj t = let x = s.crossed j hj t in (x.0, left_yes (row j) (rw (s.matching.back j hj x.0).1 hj) x.1)

  -- the lines covered are no more than the stars
  pub covers : count r n + count c n ≤ count (has_star n star) n
  covers = omega (
    arith,
    stars_split,
    count_inj c left row n n crossing (λ a b ha hb ta tb e.
        cc ((s.matching.back a ha (crossing a ha ta).0).1, (s.matching.back b hb (crossing b hb tb).0).1)),
  )

  -- so while a star is missing, the uncovered rows and columns are more than n
  pub block : count (has_star n star) n < n → n < count (λ i. not (r i)) n + count (λ j. not (c j)) n
  block h = uncovered r c n (omega (arith, covers))

  -- step 6: what is at one covered line keeps its working value
  pub phase_adjusted : (Zero' : ℕ → ℕ → Type 0) → ((i j : ℕ) → i < n → j < n → T (r i) → T (not (c j)) → Zero i j → Zero' i j)
      → ((i j : ℕ) → i < n → j < n → T (not (r i)) → T (c j) → Zero i j → Zero' i j) → Phase n Zero' star row prime time r c
  phase_adjusted Zero' low high = record {
    matching = s.matching;
    stars = λ i hi h.
        let back : row (star i) ≡ i = s.matching.there i hi (omega arith) h in
        let z = s.stars i hi h in
        ⊎_elim
        (λ t. low i (star i) hi h t (not_T (c (star i)) (λ x. T_not (r i) (rw back at (s.crossed (star i) h x).1) t)) z)
        (λ t. high i (star i) hi h t (s.crosses (star i) h (rw back hi) (rw back t)) z)
        (T_or (r i));
    primes = λ i hi p. low i (prime i) hi p (s.primed i hi p) (prime_open i hi p) (s.primes i hi p);
    covered = s.covered;
    primed = s.primed;
    crossed = s.crossed;
    crosses = s.crosses;
    chain = s.chain;
    times = s.times;
  }

  -- Where no zero is uncovered, every row has a zero and a star is missing, some row with a star is not covered: so between two adjustments a row is covered,
  -- and there are no more of them than stars.
  pub room : ((i j : ℕ) → i < n → j < n → T (not (r i)) → T (not (c j)) → Zero i j → ⊥) → ((i : ℕ) → i < n → (j : ℕ) × (j < n) × Zero i j)
      → count (has_star n star) n < n → count r n < count (has_star n star) n
  room none seen h =
      let m = count_miss (has_star n star) n h in
      let z = seen m.0 m.1 in
      let bare : T (not (r m.0)) = not_T (r m.0) (λ t. T_not (has_star n star m.0) m.2 (lt→ltb _ n (s.covered m.0 m.1 t).0)) in
      let over : T (c z.0) = T_yes (c z.0) (λ t. none m.0 z.0 m.1 z.1 bare t z.2) in
      let x = crossing z.0 z.1 over in
      omega (arith, stars_split, count_pos left n (row z.0) x.0 x.1)
