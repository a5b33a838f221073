-- The invariant *search* on the machine: what its marks and covers mean at each step, and that every step keeps it. It speaks of no price and no count.
use mathlib.Core.Path.{◌≡◌, refl, sym, ap, ◌∙◌}
use mathlib.Core.Logic.{◌≢◌}
use mathlib.Core.Bool.{Bool, true, false}
use mathlib.Core.List.{List}
use Prim.Native.Nat.{ℕ, suc, ◌+◌, ◌*◌, ◌≤◌, ◌<◌}
use native.Mathlib.Omega.{arith}
use lib.Dec.{ltb}
use lib.IntN.{ℤ}
use lib.ListN.{length, set}
use Rattle.lines.specs.Count.{count}
use Rattle.lines.specs.Sets.{has, with, without}
use Rattle.lines.specs.Put.{put}
use Rattle.lines.proofs.Puts.{put_at}
use Rattle.lines.proofs.Counts.{count_ext, count_le, bit_ge}
use Rattle.lines.proofs.Firsts.{ltb_min}
use Rattle.lines.proofs.Sets.{has_empty, has_those, with_put, without_put}
use Rattle.steps.specs.Going.{Zero, Starred, Search, Ready, Sound_at, Sound, OpenZero, has_star, Shows, Shape}
use Rattle.steps.specs.Steps.{Next, Step3, Step4, Step5, Step6, Paired, NoPairing, Unfinished, Machine, machine, star_in_row, star_columns, star_count, covering, reaching, path, flip, clear_primes, step5, augmenting, adjusting, followed, step_at, step}
use Rattle.steps.proofs.Turns.{step3_ind, step4_ind, step6_ind}
use Rattle.steps.proofs.Flip as F
use Rattle.steps.proofs.Marks.{show_primed, show_bare, show_cleared, find_star, find_row, find_count}
use Rattle.steps.proofs.Path.{show_flip}
use Rattle.steps.proofs.Phase.{phase_start, phase_ext, phase_primed, phase_adjusted, chain', primes', one_more, new, open_off}
use Rattle.steps.proofs.Adjusted.{row_stays, column_stays}

module _ (n : ℕ) (ok : ℕ → ℕ → Bool) where
  -- ---- each step

  module _ {working : List ℤ} {marks : List ℕ} {rows columns : ℕ} where
    -- step 3: a phase begins
    pub begun : (s : Starred n ok working marks) → rows ≡ 0 → columns ≡ star_columns n marks → star_count n marks ≢ n → Search n ok working marks rows columns
    unfolding star_columns
    begun s e0 e1 part = record {
      star = s.star;
      row = s.row;
      prime = λ i. n;
      time = λ i. 0;
      shows = s.shows;
      phase =
          phase_start n (Zero n ok working) s.star s.row (has rows) (has columns)
          (λ i hi. rw e0 (has_empty i))
          (λ j hj. rw e1 (has_those _ n j hj ∙ ap (λ x. ltb x n) (find_row s.shows s.row s.matching j hj) ∙ ltb_min (s.row j) n))
          s.matching s.zeros;
      missing = omega (arith, find_count s.shows, count_le (has_star n s.star) n);
    }

    -- step 4: a zero at (i, j) is primed
    module _ (s : Search n ok working marks rows columns) (i j : ℕ) (z : OpenZero n ok working rows columns i j) where
      abbrev pub marked : List ℕ
      marked = set marks (i * n + j) 2

      pub shown : Shows n s.star (put s.prime i j) marked
      shown =
          show_primed n s.star s.prime marks i j z.row_below z.column_below
          (new s.phase i j z.row_below z.column_below z.is_open.row z.is_open.column (z.is_open.allowed, z.zero))
          (open_off s.phase i j z.row_below z.column_below z.is_open.row z.is_open.column) s.shows

      -- its row has a star: the row is covered, and the star's column uncovered
      pub covered : star_in_row n marked i < n → Search n ok working marked (with rows i) (without columns (star_in_row n marked i))
      covered h =
          let e : star_in_row n marked i ≡ s.star i = find_star shown i ∙ (omega (arith, find_star shown i)) in
          record {
            star = s.star;
            row = s.row;
            prime = put s.prime i j;
            time = put s.time i (count (has rows) n);
            shows = shown;
            phase =
                phase_ext (has (with rows i)) (has (without columns (star_in_row n marked i)))
                (λ a ha. with_put rows i a)
                (λ b hb. without_put columns (star_in_row n marked i) b ∙ ap (λ x. put (has columns) x false b) e)
                (phase_primed s.phase i j z.row_below z.column_below z.is_open.row z.is_open.column (z.is_open.allowed, z.zero) (omega arith));
            missing = s.missing;
          }

      -- it has none: step 5 is next
      pub ready : n ≤ star_in_row n marked i → Ready n ok working marked rows columns i j
      ready h = record {
        star = s.star;
        row = s.row;
        prime = s.prime;
        time = s.time;
        shows = shown;
        phase = s.phase;
        missing = s.missing;
        last = z;
        bare = omega (arith, find_star shown i);
      }

      -- no star came or went, and where a row was covered there is one more
      pub same_stars : star_count n marked ≡ star_count n marks
      same_stars = find_count shown ∙ sym (find_count s.shows)

      pub one_row_more : count (has (with rows i)) n ≡ suc (count (has rows) n)
      one_row_more =
          count_ext _ _ n (λ a ha. with_put rows i a)
          ∙ one_more s.phase i j z.row_below z.column_below z.is_open.row z.is_open.column (z.is_open.allowed, z.zero)

    -- step 5: the path is flipped
    module _ {i j : ℕ} (s : Ready n ok working marks rows columns i j) where
      abbrev pub prime' : ℕ → ℕ
      prime' = put s.prime i j

      abbrev pub time' : ℕ → ℕ
      time' = put s.time i (count (has rows) n)

      pub chained : (a : ℕ) → a < n → prime' a < n → s.row (prime' a) < n → (prime' (s.row (prime' a)) < n) × (time' (s.row (prime' a)) < time' a)
      chained = chain' s.phase i j s.last.row_below s.last.column_below s.last.is_open.row s.last.is_open.column (s.last.is_open.allowed, s.last.zero)

      -- fewer than n rows are covered
      pub early : time' i < n
      early =
          omega (
            arith,
            put_at s.time i (count (has rows) n) i refl,
            one_more s.phase i j s.last.row_below s.last.column_below s.last.is_open.row s.last.is_open.column (s.last.is_open.allowed, s.last.zero),
            count_le (put (has rows) i true) n,
          )

      pub at_prime : prime' i ≡ j
      at_prime = put_at s.prime i j i refl

      abbrev pub star' : ℕ → ℕ
      star' = F.starred prime' s.star (F.on_path prime' n s.row n i)

      abbrev pub row' : ℕ → ℕ
      row' = F.rowed prime' s.row (F.on_path prime' n s.row n i)

      pub flipped : F.Flipped n (Zero n ok working) s.star s.row i star' row'
      flipped =
          F.flip n prime' time' s.row chained (Zero n ok working)
          (primes' s.phase i j s.last.row_below s.last.column_below s.last.is_open.row s.last.is_open.column (s.last.is_open.allowed, s.last.zero))
          n s.star i s.last.row_below (rw at_prime s.last.column_below) early s.bare s.phase.matching s.phase.stars

      abbrev pub augmented : Starred n ok working (clear_primes (flip n marks (path n marks n i j)))
      augmented = record {
        star = star';
        row = row';
        shows =
            show_cleared n star' prime' _
            (rw at_prime at (show_flip s.shows time' s.row s.phase.matching chained n s.star s.row i marks early
            (F.walk_start n prime' time' s.row chained s.star i s.last.row_below (rw at_prime s.last.column_below) s.bare s.phase.matching)
            (show_bare n s.star prime' marks i s.bare s.shows)));
        matching = flipped.matching;
        zeros = flipped.holds;
      }

      pub one_star_more : star_count n (clear_primes (flip n marks (path n marks n i j))) ≡ suc (star_count n marks)
      one_star_more =
          let e : star_count n (clear_primes (flip n marks (path n marks n i j))) ≡ count (has_star n star') n = find_count augmented.shows in
          omega (arith, e, find_count s.shows, flipped.more, bit_ge (s.star i) n s.bare)

  -- step 6: cells on one covered line keep their working values
  abbrev pub adjusted : {working : List ℤ} {marks : List ℕ} {rows columns : ℕ} (z : ℤ) → length working ≡ n * n → Search n ok working marks rows columns
      → Search n ok (followed n ok z rows columns working) marks rows columns
  adjusted {working} {rows = rows} {columns = columns} z size s = record {
    star = s.star;
    row = s.row;
    prime = s.prime;
    time = s.time;
    shows = s.shows;
    phase =
        phase_adjusted s.phase (Zero n ok (followed n ok z rows columns working))
        (λ i j hi hj t u o. (o.0, row_stays n ok z rows columns working size i j hi hj t u ∙ o.1))
        (λ i j hi hj t u o. (o.0, column_stays n ok z rows columns working size i j hi hj t u ∙ o.1));
    missing = s.missing;
  }

  -- ---- every step

  module _ (budget : ℕ) where
    pub sound_step : (m : Machine) → Shape n m → Sound n ok m → Sound n ok (step n ok budget m)
    unfolding step step_at step5 augmenting covering reaching adjusting
    sound_step m shape sound = go m.run.next sound.at_next
      where
        go : (x : Next) → Sound_at n ok x m → Sound n ok (step_at n ok budget x m)
        go Step3 h =
            step3_ind n ok m.marks m.run (λ o. Sound n ok (machine o m.working m.marks m.row_prices m.column_prices))
            (λ full. record { at_next = (h.0, full) })
            (λ part. record { at_next = begun h.0 h.1 refl part })
        go Step4 s =
            step4_ind n ok m.working m.run m.marks (λ o. Sound n ok (machine o.0 m.working o.1 m.row_prices m.column_prices))
            (λ i j z h. record { at_next = covered s i j z h })
            (λ i j z h. record { at_next = ready s i j z h })
            (λ none. record { at_next = (s, none) })
        go (Step5 i j) s = record { at_next = (augmented s, refl) }
        go Step6 h =
            step6_ind n ok budget m.run m.working m.row_prices m.column_prices (λ o. Sound n ok (machine o.0 o.1 m.marks o.2 o.3))
            (λ none. record { at_next = (h.0, none) })
            (λ z l e. record { at_next = (h.0, h.1) })
            (λ z l e. record { at_next = adjusted z shape.working h.0 })
        go Paired h = sound
        go NoPairing h = sound
        go Unfinished h = sound
