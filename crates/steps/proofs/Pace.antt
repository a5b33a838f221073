-- The invariant *pace*: how many adjustments and primes there can be. One law of one phase: with s stars it makes at most s adjustments and s + 1 primes.
use mathlib.Core.Path.{◌≡◌, refl, ◌∙◌}
use mathlib.Core.Logic.{◌≢◌, ⊎_elim}
use mathlib.Core.Bool.{Bool}
use mathlib.Core.List.{List}
use Prim.Native.Nat.{ℕ, suc, ◌+◌, ◌*◌, ◌≤◌, ◌<◌}
use native.Mathlib.Omega.{arith}
use lib.IntN.{ℤ}
use lib.ListN.{length}
use Rattle.lines.specs.Count.{count}
use Rattle.lines.specs.Sets.{has}
use Rattle.lines.proofs.Tests.{T_or}
use Rattle.steps.specs.Steps.{Next, Step3, Step4, Step5, Step6, Paired, NoPairing, Unfinished, Run, Machine, machine, star_count, covering, reaching, step5, augmenting, adjusting, followed, step_at, step}
use Rattle.steps.specs.Going.{OpenZero, NoZero, Shape, Zero, Search, Ready, Sound, Sound_at}
use Rattle.steps.proofs.Turns.{step3_ind, step4_ind, step6_ind}
use Rattle.steps.proofs.Marks.{find_count}
use Rattle.steps.proofs.Phase.{covers, room}
use Rattle.steps.proofs.Adjusted.{column_stays, lowest_zero}
use Rattle.steps.proofs.Search.{begun, covered, same_stars, one_row_more, one_star_more, adjusted}

-- fact Z: every row has an allowed zero
abbrev pub Seen : (n : ℕ) → (ℕ → ℕ → Bool) → List ℤ → Type 0
Seen n ok working = (i : ℕ) → i < n → (j : ℕ) × (j < n) × Zero n ok working i j

-- ---- facts of a phase

module _ (n : ℕ) (ok : ℕ → ℕ → Bool) where
  module _ {working : List ℤ} {marks : List ℕ} {rows columns : ℕ} (s : Search n ok working marks rows columns) where
    -- no more rows are covered than have stars
    pub few_rows : count (has rows) n ≤ star_count n marks
    few_rows = omega (arith, covers s.phase, find_count s.shows)

    pub few_stars : star_count n marks < n
    few_stars = omega (arith, s.missing, find_count s.shows)

    -- when step 6 comes, some row with a star is not covered
    pub room_left : NoZero n ok working rows columns → Seen n ok working → count (has rows) n < star_count n marks
    room_left none seen =
        omega (
          arith,
          room s.phase (λ i j hi hj u v z. none i j hi hj (record { row = u; column = v; allowed = z.0 }) z.1) seen s.missing,
          find_count s.shows,
        )

  -- every row still has a zero after an adjustment
  still_seen : {working : List ℤ} {marks : List ℕ} {rows columns : ℕ} (z : ℤ) → length working ≡ n * n → Search n ok working marks rows columns
      → NoZero n ok working rows columns → Seen n ok working → Seen n ok (followed n ok z rows columns working)
  still_seen {working} {rows = rows} {columns = columns} z size s none seen i hi =
      ⊎_elim
      (λ t. let h = (s.phase.covered i hi t).0 in (s.star i, h, (adjusted n ok z size s).phase.stars i hi h))
      (λ t. let x = seen i hi in (
        x.0,
        x.1,
        ⊎_elim
            (λ u. (x.2.0, column_stays n ok z rows columns working size i x.0 hi x.1 t u ∙ x.2.1))
            (λ u. absurd (none i x.0 hi x.1 (record { row = t; column = u; allowed = x.2.0 }) x.2.1))
            (T_or (has columns x.0)),
      ))
      (T_or (has rows i))

-- ---- the invariant

-- A run that began with s₀ stars. With s stars a phase begins after at most f s adjustments and fewer than g s primes, and f and g grow as one phase does.
module _ (n : ℕ) (ok : ℕ → ℕ → Bool) (s₀ : ℕ) (f g : ℕ → ℕ) where
  -- s stars, a adjustments and p primes in this phase at most
  pub record Pace (working : List ℤ) (r : Run) (s a p : ℕ) : Type 0 where
    pub since : s₀ ≤ s
    pub adjustments : r.adjustments ≤ f s + a
    pub primes : r.primes + 1 ≤ g s + p
    pub augmentations : r.augmentations + s₀ ≡ s
    pub seen : Seen n ok working

  -- at step 4, with k covered rows: d is 1 from an adjustment to the next prime
  pub record Due (working : List ℤ) (r : Run) (s k : ℕ) : Type 0 where
    pub d : ℕ
    pub flag : d ≤ 1
    pub zero : d ≡ 1 → (i : ℕ) × (j : ℕ) × OpenZero n ok working r.rows r.columns i j
    pub room : k + d ≤ s
    pub pace : Pace working r s (k + d) k

  abbrev pub Paced_at : Next → Machine → Type 0
  Paced_at Step3 m = Pace m.working m.run (star_count n m.marks) 0 0
  Paced_at Step4 m = Due m.working m.run (star_count n m.marks) (count (has m.run.rows) n)
  Paced_at (Step5 i j) m = Pace m.working m.run (star_count n m.marks) (star_count n m.marks) (suc (star_count n m.marks))
  Paced_at Step6 m = Pace m.working m.run (star_count n m.marks) (count (has m.run.rows) n) (count (has m.run.rows) n)
  Paced_at Paired m = Pace m.working m.run (star_count n m.marks) 0 0
  Paced_at NoPairing m = Pace m.working m.run (star_count n m.marks) (count (has m.run.rows) n) (count (has m.run.rows) n)
  Paced_at Unfinished m = Pace m.working m.run (star_count n m.marks) (count (has m.run.rows) n) (count (has m.run.rows) n)

  pub record Paced (m : Machine) : Type 0 where
    pub at_next : Paced_at m.run.next m

  -- ---- every step

  module _ (more_f : (s : ℕ) → s₀ ≤ s → s < n → f s + s ≤ f (suc s)) (more_g : (s : ℕ) → s₀ ≤ s → s < n → g s + suc s ≤ g (suc s)) (budget : ℕ) where
    pub paced_step : (m : Machine) → Shape n m → Sound n ok m → Paced m → Paced (step n ok budget m)
    unfolding step step_at step5 augmenting covering reaching adjusting
    paced_step m shape sound paced = go m.run.next sound.at_next paced.at_next
      where
        few : {i j : ℕ} → Ready n ok m.working m.marks m.run.rows m.run.columns i j → star_count n m.marks < n
        few s = omega (arith, s.missing, find_count s.shows)

        go : (x : Next) → Sound_at n ok x m → Paced_at x m → Paced (step_at n ok budget x m)
        go Step3 h p =
            step3_ind n ok m.marks m.run (λ r. Paced (machine r m.working m.marks m.row_prices m.column_prices))
            (λ full. record { at_next = record { since = p.since; adjustments = p.adjustments; primes = p.primes; augmentations = p.augmentations; seen = p.seen } })
            (λ part. record {
              at_next = record {
                d = 0;
                flag = omega arith;
                zero = λ e. absurd (omega arith);
                room = let q : count (has m.run.rows) n ≤ star_count n m.marks = few_rows n ok (begun n ok h.0 h.1 refl part) in omega arith;
                pace = record { since = p.since; adjustments = omega (arith, p.adjustments); primes = omega (arith, p.primes); augmentations = p.augmentations; seen = p.seen };
              };
            })
        go Step4 s p =
            step4_ind n ok m.working m.run m.marks (λ o. Paced (machine o.0 m.working o.1 m.row_prices m.column_prices))
            (λ i j z h. record {
              at_next = rw (same_stars n ok s i j z, one_row_more n ok s i j z) (record {
                d = 0;
                flag = omega arith;
                zero = λ e. absurd (omega arith);
                room = omega (arith, few_rows n ok (covered n ok s i j z h), one_row_more n ok s i j z, same_stars n ok s i j z);
                pace = record { since = p.pace.since; adjustments = omega (arith, p.pace.adjustments, p.flag); primes = omega (arith, p.pace.primes); augmentations = p.pace.augmentations; seen = p.pace.seen };
              });
            })
            (λ i j z h. record {
              at_next = rw (same_stars n ok s i j z) (record { since = p.pace.since; adjustments = omega (arith, p.pace.adjustments, p.room); primes = omega (arith, p.pace.primes, p.room); augmentations = p.pace.augmentations; seen = p.pace.seen });
            })
            (λ none.
            let spare : p.d ≢ 1 = λ e. let q = p.zero e in none _ _ q.2.row_below q.2.column_below q.2.is_open q.2.zero in
            record { at_next = record { since = p.pace.since; adjustments = omega (arith, p.pace.adjustments, p.flag); primes = p.pace.primes; augmentations = p.pace.augmentations; seen = p.pace.seen } })
        go (Step5 i j) s p = record {
          at_next = rw (one_star_more n ok s) (record { since = omega (arith, p.since); adjustments = omega (arith, p.adjustments, more_f _ p.since (few s)); primes = omega (arith, p.primes, more_g _ p.since (few s)); augmentations = omega (arith, p.augmentations); seen = p.seen });
        }
        go Step6 h p =
            step6_ind n ok budget m.run m.working m.row_prices m.column_prices (λ o. Paced (machine o.0 o.1 m.marks o.2 o.3))
            (λ none. record { at_next = record { since = p.since; adjustments = p.adjustments; primes = p.primes; augmentations = p.augmentations; seen = p.seen } })
            (λ z l e. record { at_next = record { since = p.since; adjustments = p.adjustments; primes = p.primes; augmentations = p.augmentations; seen = p.seen } })
            (λ z l e. record {
              at_next = record {
                d = 1;
                flag = omega arith;
                room = omega (arith, room_left n ok h.0 h.1 p.seen);
                zero = λ q. (l.row, l.column, record { row_below = l.row_below; column_below = l.column_below; is_open = l.is_open; zero = lowest_zero n ok z m.run.rows m.run.columns m.working shape.working l });
                pace = record {
                  since = p.since;
                  adjustments = omega (arith, p.adjustments);
                  primes = p.primes;
                  augmentations = p.augmentations;
                  seen = still_seen n ok z shape.working h.0 h.1 p.seen;
                };
              };
            })
        go Paired h p = paced
        go NoPairing h p = paced
        go Unfinished h p = paced
