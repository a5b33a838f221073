-- Every run ends, from any state with the search invariant: a phase adds a star, a prime covers a row or ends the phase, and after an adjustment there is an
-- uncovered zero, so that a prime follows.
use mathlib.Core.Path.{◌≡◌, refl}
use mathlib.Core.Logic.{dite}
use mathlib.Core.Bool.{Bool, true, false, cond, true≢false}
use mathlib.Core.List.{List}
use Prim.Native.Nat.{ℕ, suc, ◌+◌, ◌-◌, ◌*◌, ◌≤◌, ◌<◌}
use native.Mathlib.Nat.{mul-le-mul_right}
use native.Mathlib.Decide.{dec_lt}
use native.Mathlib.Omega.{arith}
use lib.Dec.{ltb, ltb→lt, lt→ltb}
use lib.IntN.{ℤ}
use lib.ListN.{set}
use Rattle.lines.specs.Sets.{has, with, without}
use Rattle.lines.proofs.Tests.{T_true}
use Rattle.lines.proofs.Counts.{count_le}
use Rattle.steps.specs.Bounds.{waits, turn, left_at, left}
use Rattle.steps.specs.Steps.{Next, Step3, Step4, Step5, Step6, Paired, NoPairing, Unfinished, Machine, machine, star_in_row, star_columns, star_count, covering, reaching, path, flip, clear_primes, step5, augmenting, zero_column, adjusting, followed, step_at, step, steps}
use Rattle.steps.specs.Going.{OpenZero, NoZero, Shape, Sound, Sound_at}
use Rattle.steps.proofs.Turns.{zero_found, zero_none, step3_ind, step4_ind, step6_ind}
use Rattle.steps.specs.Counts.{over}
use Rattle.steps.proofs.Runs.{ends}
use Rattle.steps.proofs.Shape.{shape_step}
use Rattle.steps.proofs.Adjusted.{lowest_zero}
use Rattle.steps.proofs.Marks.{find_count}
use Rattle.steps.proofs.Search.{sound_step, same_stars, one_row_more, one_star_more}

module _ (n : ℕ) (ok : ℕ → ℕ → Bool) where
  waits_some : (working : List ℤ) (rows columns : ℕ) → (1 ≤ waits n ok working rows columns) × (waits n ok working rows columns ≤ 3)
  unfolding waits
  waits_some working rows columns = go (ltb (zero_column n ok working rows columns) n)
    where
      go : (b : Bool) → (1 ≤ cond b 1 3) × (cond b 1 3 ≤ 3)
      go true = omega arith
      go false = omega arith

  waits_short : (working : List ℤ) (rows columns : ℕ) (i j : ℕ) → OpenZero n ok working rows columns i j → waits n ok working rows columns ≡ 1
  unfolding waits
  waits_short working rows columns i j z =
      dite (dec_lt (zero_column n ok working rows columns) n)
      (λ h. rw (T_true (ltb (zero_column n ok working rows columns) n) (lt→ltb _ n h)))
      (λ h. absurd (zero_none n ok working rows columns (omega arith) i j z.row_below z.column_below z.is_open z.zero))

  waits_long : (working : List ℤ) (rows columns : ℕ) → NoZero n ok working rows columns → waits n ok working rows columns ≡ 3
  unfolding waits
  waits_long working rows columns none = go (ltb (zero_column n ok working rows columns) n) refl
    where
      go : (b : Bool) → ltb (zero_column n ok working rows columns) n ≡ b → ◌≡◌ {A = ℕ} (cond b 1 3) 3
      go true e =
          let z = zero_found n ok working rows columns (ltb→lt _ n (rw e tt)) in
          absurd (none _ _ z.row_below z.column_below z.is_open z.zero)
      go false e = refl

  module _ (budget : ℕ) where
    pub falls : (m : Machine) → Shape n m → Sound n ok m → over m.run.next ≡ false → left n ok (step n ok budget m) < left n ok m
    unfolding step step_at left left_at turn step5 augmenting covering reaching adjusting
    falls m shape sound o = go m.run.next sound.at_next o
      where
        go : (x : Next) → Sound_at n ok x m → over x ≡ false → left n ok (step_at n ok budget x m) < left_at n ok x m
        go Step3 h o =
            step3_ind n ok m.marks m.run (λ r. left n ok (machine r m.working m.marks m.row_prices m.column_prices) < left_at n ok Step3 m)
            (λ full. omega arith) (λ part. omega (arith, waits_some m.working m.run.rows (star_columns n m.marks)))
        go Step4 s o =
            step4_ind n ok m.working m.run m.marks (λ o. left n ok (machine o.0 m.working o.1 m.row_prices m.column_prices) < left_at n ok Step4 m)
            (λ i j z h. rw (same_stars n ok s i j z) (omega (arith, one_row_more n ok s i j z, waits_some m.working (with m.run.rows i) (without m.run.columns (star_in_row n (set m.marks (i * n + j) 2) i)), count_le (has (with m.run.rows i)) n)))
            (λ i j z h. rw (same_stars n ok s i j z) (omega (arith, waits_some m.working m.run.rows m.run.columns)))
            (λ none. omega (arith, waits_long m.working m.run.rows m.run.columns none))
        go (Step5 i j) s o =
            let after = star_count n (clear_primes (flip n m.marks (path n m.marks n i j))) in
            let more : after ≡ suc (star_count n m.marks) = one_star_more n ok s in
            omega (arith, more, s.missing, find_count s.shows, mul-le-mul_right (4 * n + 8) (let h : suc (n - after) ≤ n - star_count n m.marks = omega (arith, more, s.missing, find_count s.shows) in h))
        go Step6 h o =
            step6_ind n ok budget m.run m.working m.row_prices m.column_prices (λ o. left n ok (machine o.0 o.1 m.marks o.2 o.3) < left_at n ok Step6 m)
            (λ none. omega arith)
            (λ z l e. omega arith)
            (λ z l e. omega (
              arith,
              waits_short (followed n ok z m.run.rows m.run.columns m.working) m.run.rows m.run.columns l.row l.column
                  (record { row_below = l.row_below; column_below = l.column_below; is_open = l.is_open; zero = lowest_zero n ok z m.run.rows m.run.columns m.working shape.working l }),
            ))
        go Paired h o = absurd (true≢false o)
        go NoPairing h o = absurd (true≢false o)
        go Unfinished h o = absurd (true≢false o)

    -- what each step keeps, and the end
    pub settles : (m : Machine) → Shape n m → Sound n ok m → (k : ℕ) × (over (steps n ok budget k m).run.next ≡ true)
    settles m shape sound =
        ends n ok budget (λ m. Shape n m × Sound n ok m) (λ m h. (shape_step n ok budget m h.0, sound_step n ok budget m h.0 h.1)) (left n ok)
        (λ m h o. falls m h.0 h.1 o) m (shape, sound)
