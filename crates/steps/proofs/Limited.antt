-- The invariant *limits* on the machine: how large its prices and working values can become, that every step keeps it, and the bound that follows.
use mathlib.Core.Path.{◌≡◌, refl, sym, ap, ◌∙◌}
use mathlib.Core.Logic.{dite, ⊎_elim}
use mathlib.Core.Bool.{Bool, false}
use mathlib.Core.List.{List}
use Prim.Native.Nat.{ℕ, ◌+◌, ◌*◌, ◌/◌, ◌%◌, ◌≤◌, ◌<◌, min}
use native.Mathlib.Decide.{dec_lt}
use native.Mathlib.Omega.{arith}
use lib.Dec.{T, not_T, ltb, nltb→le}
use lib.IntN.{ℤ, pos, ◌+ℤ◌}
use lib.Signed.{◌≤ℤ◌}
use lib.ListN.{get_or, set}
use Rattle.lines.specs.Count.{count}
use Rattle.lines.specs.First.{any, least}
use Rattle.lines.specs.Square.{cell}
use Rattle.lines.specs.Sets.{has, with, without}
use Rattle.lines.proofs.Tests.{T_or}
use Rattle.lines.specs.Put.{put}
use Rattle.lines.proofs.Counts.{count_none}
use Rattle.lines.proofs.Firsts.{any_is}
use Rattle.lines.proofs.Leasts.{least_is}
use Rattle.lines.specs.Bounds.{Within}
use Rattle.lines.proofs.Signed.{within_zero}
use Rattle.lines.proofs.Squares.{place_in, place_back, table_at}
use Rattle.lines.proofs.Sets.{has_empty, has_those, with_put, without_put}
use Rattle.steps.specs.Bounds.{Limits_on, Between, During, Limited_at, Limited, Bounded, limit}
use Rattle.steps.specs.Steps.{Next, Step3, Step4, Step5, Step6, Paired, NoPairing, Unfinished, Machine, machine, star_in_row, star_in_column, star_columns, star_count, row_price, start, covering, reaching, path, flip, clear_primes, step5, augmenting, adjusting, lowered, raised, step_at, step}
use Rattle.steps.specs.Going.{OpenZero, has_star, Shows, Phase, Shape, Priced, Zero, Starred, Search, Ready, Sound, Sound_at}
use Rattle.steps.proofs.Turns.{Lowest, step3_ind, step4_ind, step6_ind}
use Rattle.steps.proofs.Marks.{find_star, find_row, find_count}
use Rattle.steps.proofs.Phase.{covers}
use Rattle.steps.proofs.Adjusted.{lowered_at, raised_at}
use Rattle.steps.proofs.Search.{shown, row', flipped, augmented, one_star_more}
use Rattle.steps.proofs.Limits.{tight, limits_start, limits_primed, limits_augmented, limits_adjusted, limits_same, limits_column, limits_row, limits_work}

-- where a search finds a star, it is the row's
found : {n : ℕ} {star prime : ℕ → ℕ} {marks : List ℕ} → Shows n star prime marks → (i : ℕ) → star_in_row n marks i < n → star_in_row n marks i ≡ star i
found {n} shows i h = find_star shows i ∙ (omega (arith, find_star shows i))

-- and what had none afterwards had none before, if what has one keeps one
bare_before : {n s s' t t' : ℕ} → s ≡ min t n → s' ≡ min t' n → (t < n → t' < n) → n ≤ s' → n ≤ s
bare_before {n} {s} {s'} {t} {t'} e e' keeps h = dite (dec_lt t n) (λ l. absurd (omega (arith, keeps l))) (λ l. omega arith)

module _ (n : ℕ) (ok : ℕ → ℕ → Bool) (cost : ℕ → ℕ → ℤ) {C : ℕ} (within : (i j : ℕ) → i < n → j < n → T (ok i j) → Within C (cost i j)) where
  -- ---- the start: no column price, and each row price an allowed cost

  pub limited_start : ((i : ℕ) → i < n → T (any (ok i) n)) → Limited n C C 0 (start n ok cost)
  unfolding start row_price
  limited_start some = record {
    at_next = limits_start
        (λ i hi. rw (table_at (pos 0) (row_price n ok cost) n i hi) (least_within i hi))
        (λ j hj. rw (table_at (pos 0) (λ j. pos 0) n j hj) (within_zero 0));
  }
    where
      least_within : (i : ℕ) → i < n → Within C (cost i (least (ok i) (cost i) n))
      least_within i hi =
          let a = any_is (ok i) n (some i hi) in
          let l = least_is (ok i) (cost i) n in
          let h = (l.low a.0 a.1 a.2).0 in
          within i (least (ok i) (cost i) n) hi h (l.hit h)

  -- ---- each step

  module _ {m : Machine} (priced : Priced n ok cost m) where
    abbrev rp : ℕ → ℤ
    rp i = get_or m.row_prices i (pos 0)

    abbrev cp : ℕ → ℤ
    cp j = get_or m.column_prices j (pos 0)

    -- the marks after step 5
    abbrev after : ℕ → ℕ → List ℕ
    after i j = clear_primes (flip n m.marks (path n m.marks n i j))

    zero_within : (i j : ℕ) → i < n → j < n → Zero n ok m.working i j → Within C (rp i +ℤ cp j)
    zero_within i j hi hj z = tight (rp i) (cp j) (within i j hi hj z.0) (priced.equation i j hi hj z.0) z.1

    star_within : {star prime : ℕ → ℕ} → Shows n star prime m.marks → ((i : ℕ) → i < n → star i < n → Zero n ok m.working i (star i))
        → (i : ℕ) → i < n → star_in_row n m.marks i < n → Within C (rp i +ℤ cp (star_in_row n m.marks i))
    star_within {star} shows zeros i hi h =
        let e : star_in_row n m.marks i ≡ star i = found shows i h in
        let k : star i < n = omega arith in
        rw e (zero_within i (star i) hi k (zeros i hi k))

    -- step 3: the covers that were awaited
    limits_begun : {A B : ℕ} → Between n C A B m → m.run.rows ≡ 0
        → Limits_on n C A B m.marks (has m.run.rows) (has (star_columns n m.marks)) m.row_prices m.column_prices
    unfolding star_columns
    limits_begun l e =
        limits_same l (λ i hi. refl) (λ j hj. refl) (λ i hi. rw e (has_empty i)) (λ j hj. has_those _ n j hj) (λ i hi. refl) (λ j hj. refl)

    module _ {A B : ℕ} (l : During n C A B m) where
      -- step 4: a zero at (i, j) is primed
      module _ (s : Search n ok m.working m.marks m.run.rows m.run.columns) (i j : ℕ)
          (z : OpenZero n ok m.working m.run.rows m.run.columns i j) where
        abbrev marked : List ℕ
        marked = set m.marks (i * n + j) 2

        -- no star came or went
        same_star : (a : ℕ) → star_in_row n marked a ≡ star_in_row n m.marks a
        same_star a = find_star (shown n ok s i j z) a ∙ sym (find_star s.shows a)

        same_row : (b : ℕ) → b < n → star_in_column n marked b ≡ star_in_column n m.marks b
        same_row b hb = find_row (shown n ok s i j z) s.row s.phase.matching b hb ∙ sym (find_row s.shows s.row s.phase.matching b hb)

        limits_covered : star_in_row n marked i < n
            → Limits_on n C A B marked (has (with m.run.rows i)) (has (without m.run.columns (star_in_row n marked i))) m.row_prices m.column_prices
        limits_covered h =
            limits_same
            (limits_primed l i j z.row_below z.column_below z.is_open.row z.is_open.column
            (zero_within i j z.row_below z.column_below (z.is_open.allowed, z.zero))
            (star_within s.shows s.phase.stars i z.row_below (omega (arith, same_star i))))
            (λ a ha. same_star a) same_row (λ a ha. with_put m.run.rows i a)
            (λ b hb. without_put m.run.columns (star_in_row n marked i) b ∙ ap (λ x. put (has m.run.columns) x false b) (same_star i))
            (λ a ha. refl) (λ b hb. refl)

        limits_reached : Limits_on n C A B marked (has m.run.rows) (has m.run.columns) m.row_prices m.column_prices
        limits_reached = limits_same l (λ a ha. same_star a) same_row (λ a ha. refl) (λ b hb. refl) (λ a ha. refl) (λ b hb. refl)

      -- step 5: the prime at (i, j) ends the phase
      limits_flipped : {i j : ℕ} → Ready n ok m.working m.marks m.run.rows m.run.columns i j
          → Limits_on n C A B (after i j) (λ k. false) (λ k. ltb (star_in_column n (after i j) k) n) m.row_prices m.column_prices
      unfolding star_count
      limits_flipped {i} {j} s =
          limits_augmented l (star_in_row n (after i j)) (star_in_column n (after i j)) (λ k. ltb (star_in_column n (after i j) k) n) i j
          (λ k hk. bare_before (find_star s.shows k) (find_star (augmented n ok s).shows k) ((flipped n ok s).keeps k))
          (λ k hk. bare_before (find_row s.shows s.row s.phase.matching k hk)
          (find_row (augmented n ok s).shows (row' n ok s) (flipped n ok s).matching k hk) ((flipped n ok s).stays k))
          (omega (arith, one_star_more n ok s))
          (λ k hk t. nltb→le (star_in_column n (after i j) k) n t)
          (omega (arith, covers s.phase, find_count s.shows))
          s.last.row_below s.last.column_below (omega (arith, find_star s.shows i, s.bare)) s.last.is_open.column
          (zero_within i j s.last.row_below s.last.column_below (s.last.is_open.allowed, s.last.zero))

      -- step 6: by the least open working value z
      limits_moved : Shape n m → Search n ok m.working m.marks m.run.rows m.run.columns → (z : ℤ)
          → Lowest n ok m.working m.run.rows m.run.columns z
          → Limits_on n C A B m.marks (has m.run.rows) (has m.run.columns) (lowered z m.run.rows m.row_prices) (raised z m.run.columns m.column_prices)
      limits_moved shape s z w =
          limits_same
          (limits_adjusted l z a b positive w.row_below w.column_below w.is_open.column
          (rw (← sum) (within a b w.row_below w.column_below w.is_open.allowed)) across (star_within s.shows s.phase.stars a w.row_below)
          (λ i hi h. not_T (has m.run.rows i) (λ t. omega (arith, (s.phase.covered i hi t).0, find_star s.shows i)))
          (λ j hj h. not_T (has m.run.columns j) (λ t. omega (arith, (s.phase.crossed j hj t).0, find_row s.shows s.row s.phase.matching j hj))))
          (λ i hi. refl) (λ j hj. refl) (λ i hi. refl) (λ j hj. refl)
          (λ i hi. lowered_at z m.run.rows m.row_prices i (omega (arith, shape.row_prices)))
          (λ j hj. raised_at z m.run.columns m.column_prices j (omega (arith, shape.column_prices)))
        where
          a : ℕ
          a = w.row

          b : ℕ
          b = w.column

          positive : pos 0 ≤ℤ z
          positive = rw w.value at (priced.whole a b w.row_below w.column_below w.is_open.allowed)

          sum : cost a b ≡ rp a +ℤ cp b +ℤ z
          sum = priced.equation a b w.row_below w.column_below w.is_open.allowed ∙ ap (λ x. rp a +ℤ cp b +ℤ x) w.value

          -- an uncovered row's star is in a covered column
          across : star_in_row n m.marks a < n → T (has m.run.columns (star_in_row n m.marks a))
          across h =
              let e : star_in_row n m.marks a ≡ s.star a = found s.shows a h in
              let k : s.star a < n = omega arith in
              let back : s.row (s.star a) ≡ a = s.phase.matching.there a w.row_below (omega (arith, w.row_below)) k in
              rw e (s.phase.crosses (s.star a) k (rw back w.row_below) (rw back w.is_open.row))

  -- ---- every step

  module _ {A B : ℕ} (budget : ℕ) (m : Machine) where
    pub limited_step : Shape n m → Sound n ok m → Priced n ok cost m → Limited n C A B m → Limited n C A B (step n ok budget m)
    unfolding step step_at step5 augmenting covering reaching adjusting
    limited_step shape sound priced limited = go m.run.next sound.at_next limited.at_next
      where
        go : (x : Next) → Sound_at n ok x m → Limited_at n C A B x m → Limited n C A B (step_at n ok budget x m)
        go Step3 h l =
            step3_ind n ok m.marks m.run (λ o. Limited n C A B (machine o m.working m.marks m.row_prices m.column_prices))
            (λ full. record { at_next = l })
            (λ part. record { at_next = limits_begun priced l h.1 })
        go Step4 s l =
            step4_ind n ok m.working m.run m.marks (λ o. Limited n C A B (machine o.0 m.working o.1 m.row_prices m.column_prices))
            (λ i j z h. record { at_next = limits_covered priced l s i j z h })
            (λ i j z h. record { at_next = limits_reached priced l s i j z })
            (λ none. record { at_next = l })
        go (Step5 i j) s l = record { at_next = limits_flipped priced l s }
        go Step6 h l =
            step6_ind n ok budget m.run m.working m.row_prices m.column_prices (λ o. Limited n C A B (machine o.0 o.1 m.marks o.2 o.3))
            (λ none. record { at_next = l })
            (λ z w e. record { at_next = l })
            (λ z w e. record { at_next = limits_moved priced l shape h.0 z w })
        go Paired h l = limited
        go NoPairing h l = limited
        go Unfinished h l = limited

  -- ---- the bound

  -- while a row is uncovered
  bounded : {A B : ℕ} {r c : ℕ → Bool} {star prime : ℕ → ℕ} {m : Machine} → Priced n ok cost m
      → Limits_on n C A B m.marks r c m.row_prices m.column_prices → count r n < n
      → Shows n star prime m.marks → ((i : ℕ) → i < n → star i < n → Zero n ok m.working i (star i)) → Bounded n (limit n C A B) m
  bounded {A} {B} {m = m} priced l left shows zeros = record {
    rows = λ i hi. limits_row l left i hi (star_within priced shows zeros i hi);
    columns = limits_column l left;
    cells = λ q hq. let p = place_in n q hq in rw (← place_back n q) (work (q / n) (q % n) p.0 p.1);
  }
    where
      work : (i j : ℕ) → i < n → j < n → Within (limit n C A B) (cell (pos 0) n m.working i j)
      work i j hi hj =
          ⊎_elim
          (λ t. limits_work l left i hi (star_within priced shows zeros i hi) j hj (within i j hi hj t) (priced.equation i j hi hj t) (priced.whole i j hi hj t))
          (λ t. rw (priced.none i j hi hj t) (within_zero (limit n C A B)))
          (T_or (ok i j))

  pub limits : {A B : ℕ} (m : Machine) → 0 < n → Sound n ok m → Priced n ok cost m → Limited n C A B m → Bounded n (limit n C A B) m
  limits {A} {B} m some sound priced limited = go m.run.next sound.at_next limited.at_next
    where
      -- by the stars alone, and in a phase
      starred : Starred n ok m.working m.marks → Between n C A B m → Bounded n (limit n C A B) m
      starred s l = bounded priced l (omega (arith, count_none n)) s.shows s.zeros

      phased : {star row prime prime' time : ℕ → ℕ} {r c : ℕ → Bool} → Phase n (Zero n ok m.working) star row prime time r c
          → count (has_star n star) n < n → Shows n star prime' m.marks → Limits_on n C A B m.marks r c m.row_prices m.column_prices
          → Bounded n (limit n C A B) m
      phased phase missing shows l = bounded priced l (omega (arith, covers phase)) shows phase.stars

      go : (x : Next) → Sound_at n ok x m → Limited_at n C A B x m → Bounded n (limit n C A B) m
      go Step3 h l = starred h.0 l
      go Step4 s l = phased s.phase s.missing s.shows l
      go (Step5 i j) s l = phased s.phase s.missing s.shows l
      go Step6 h l = phased h.0.phase h.0.missing h.0.shows l
      go Paired h l = starred h.0 l
      go NoPairing h l = phased h.0.phase h.0.missing h.0.shows l
      go Unfinished h l = phased h.0.phase h.0.missing h.0.shows l
