-- Fresh runs: what holds at every machine on the way from the start of an accepted call, and the ceilings of its counts.
use mathlib.Core.Path.{◌∙◌}
use mathlib.Core.Bool.{Bool}
use mathlib.Core.List.{List}
use Prim.Native.Nat.{ℕ, suc, ◌+◌, ◌-◌, ◌*◌, ◌/◌, ◌≤◌, ◌<◌}
use native.Mathlib.Omega.{arith}
use lib.Dec.{T}
use lib.IntN.{ℤ, pos}
use Rattle.lines.specs.Sum.{sum}
use Rattle.lines.specs.First.{any, least}
use Rattle.lines.proofs.Sums.{le_sum, sum_longer, sum_below_half, sum_upto_half}
use Rattle.lines.proofs.Signed.{signed, minus_parts}
use Rattle.lines.proofs.Firsts.{any_is}
use Rattle.lines.proofs.Leasts.{least_is}
use Rattle.lines.proofs.Squares.{square_at}
use Rattle.steps.specs.Steps.{Run, Machine, star_count, row_price, excess, start, step, steps}
use Rattle.steps.proofs.Runs.{kept}
use Rattle.steps.specs.Going.{Going}
use Rattle.steps.proofs.Shape.{shape_start, shape_step}
use Rattle.steps.proofs.Search.{sound_step}
use Rattle.steps.proofs.Priced.{priced_start, priced_step, excess_allowed}
use Rattle.steps.proofs.Pace.{Seen, Pace, Paced, paced_step}
use Rattle.steps.proofs.Start.{one_star, sound_start}

-- 0 + 1 + .. and 1 + 2 + ..: what the phases before the one with s stars can add up to
abbrev pub adjusts_before : ℕ → ℕ
adjusts_before = sum (λ x. x)

abbrev pub primes_before : ℕ → ℕ
primes_before = sum (λ x. x + 1)

-- ---- a run from any state, and the start of a call

module _ (n : ℕ) (ok : ℕ → ℕ → Bool) (cost : ℕ → ℕ → ℤ) where
  pub going_step : (budget : ℕ) (m : Machine) → Going n ok cost m → Going n ok cost (step n ok budget m)
  going_step budget m g = record {
    shape = shape_step n ok budget m g.shape;
    sound = sound_step n ok budget m g.shape g.sound;
    priced = priced_step n ok cost budget m g.shape g.priced;
  }

  pub going_start : Going n ok cost (start n ok cost)
  going_start = record { shape = shape_start n ok cost; sound = sound_start n ok cost; priced = priced_start n ok cost }

  -- ---- a fresh run

  abbrev pub first_stars : ℕ
  first_stars = star_count n (start n ok cost).marks

  pub record Fresh (m : Machine) : Type 0 where
    pub going : Going n ok cost m
    pub paced : Paced n ok first_stars adjusts_before primes_before m

  pub fresh_step : (budget : ℕ) (m : Machine) → Fresh m → Fresh (step n ok budget m)
  unfolding sum
  fresh_step budget m f = record {
    going = going_step budget m f.going;
    paced = paced_step n ok first_stars adjusts_before primes_before (λ s l h. omega arith) (λ s l h. omega arith) budget m f.going.shape f.going.sound f.paced;
  }

  module _ (some : 0 < n) (rows : (i : ℕ) → i < n → T (any (ok i) n)) where
    -- the cell of the row's price is a zero
    seen : Seen n ok (start n ok cost).working
    unfolding start
    seen i hi =
        let x = any_is (ok i) n (rows i hi) in
        let j = least (ok i) (cost i) n in
        let l = least_is (ok i) (cost i) n in
        let h = (l.low x.0 x.1 x.2).0 in
        (j, h, (l.hit h, square_at (pos 0) (excess n ok cost) n i j hi h ∙ excess_allowed n ok cost i j (l.hit h) ∙ unfold row_price in omega (signed, minus_parts (cost i j) (cost i j))))

    pub some_star : 0 < first_stars
    unfolding start
    some_star = let z = seen 0 some in one_star n ok _ some z.0 z.1 z.2

    pub fresh_start : Fresh (start n ok cost)
    unfolding start
    fresh_start = record {
      going = going_start;
      paced = record {
        at_next = record {
          since = omega arith;
          adjustments = omega arith;
          primes = omega (arith, le_sum (λ x. x + 1) first_stars 0 some_star);
          augmentations = omega arith;
          seen = seen;
        };
      };
    }

    pub fresh : (budget k : ℕ) → Fresh (steps n ok budget k (start n ok cost))
    fresh budget k = kept n ok budget Fresh (fresh_step budget) (start n ok cost) fresh_start k

    -- ---- the ceilings

    abbrev pub Ceilings : Run → Type 0
    Ceilings r = (r.adjustments ≤ n * (n - 1) / 2) × (r.primes ≤ n * (n + 1) / 2 - 1) × (r.augmentations ≤ n - 1)

    module _ {working : List ℤ} {r : Run} {s a p : ℕ} (pace : Pace n ok first_stars adjusts_before primes_before working r s a p) where
      -- in a phase, with a star missing
      pub ceilings_within : s < n → a ≤ s → p ≤ suc s → Ceilings r
      unfolding sum
      ceilings_within h ha hp =
          rw (← sum_below_half n, ← sum_upto_half n) (
            omega (arith, pace.adjustments, sum_longer (λ x. x) (suc s) n h),
            omega (arith, pace.primes, sum_longer (λ x. x + 1) (suc s) n h),
            omega (arith, pace.augmentations, some_star),
          )

      -- and strictly, where a row with a star is left
      pub below_ceiling : s < n → a < s → r.adjustments < n * (n - 1) / 2
      unfolding sum
      below_ceiling h ha = rw (← sum_below_half n) (omega (arith, pace.adjustments, sum_longer (λ x. x) (suc s) n h))

    -- at the end, with n stars
    pub ceilings_full : {working : List ℤ} {r : Run} → Pace n ok first_stars adjusts_before primes_before working r n 0 0 → Ceilings r
    ceilings_full pace =
        rw (← sum_below_half n, ← sum_upto_half n) (omega (arith, pace.adjustments), omega (arith, pace.primes), omega (arith, pace.augmentations, some_star))
