-- What a step keeps, what a run's functions need of it, and that the run falls.
use mathlib.Core.Path.{◌≡◌, ap, subst}
use mathlib.Core.Logic.{◌≢◌}
use mathlib.Core.Bool.{Bool, true, false}
use mathlib.Core.List.{List}
use Prim.Native.Nat.{ℕ, ◌+◌, ◌*◌, ◌^◌, ◌<◌}
use native.Mathlib.Omega.{arith}
use lib.Dec.{ltb, lt→ltb, eqb}
use lib.IntN.{ℤ, pos}
use lib.ListN.{get_or}
use mir.Syntax.{w64}
use Rattle.lines.proofs.Tests.{T_true, T_false, eqb_no}
use Rattle.lines.proofs.Signed.{within_fits, within_neg}
use Rattle.steps.specs.Lent.{most_cost, allows}
use Rattle.steps.specs.Steps as S
use Rattle.steps.specs.Steps.{Next, Machine, machine, lowest, followed, lowered, raised}
use Rattle.steps.specs.Counts.{over}
use Rattle.steps.specs.Going.{Sound_at}
use Rattle.steps.specs.Bounds.{limit, Bounded, left}
use Rattle.steps.proofs.Fresh.{going_step}
use Rattle.steps.proofs.Few.{few_step}
use Rattle.steps.proofs.Limited.{limited_step, limits}
use Rattle.steps.proofs.Settles.{falls}
use Rattle.steps.proofs.Budget.{within}
use Rattle.ground.specs.Good.{Adjusts, Frame, Kept, Good}

module _ {n : ℕ} {mask : List ℕ} {cost : ℕ → ℕ → ℤ} {f : Frame n mask cost} {budget : ℕ} {m : Machine} (k : Kept f budget m) where
  abbrev ok : ℕ → ℕ → Bool
  ok = allows n mask

  pub kept_step : Kept f budget (S.step n ok budget m)
  kept_step = record {
    spare = within n ok budget m k.spare;
    going = going_step n ok cost budget m k.going;
    limited = limited_step n ok cost f.range budget m k.going.shape k.going.sound k.going.priced k.limited;
    few = few_step n ok budget f.most m k.going.shape k.going.sound k.few;
  }

  pub kept_falls : over m.run.next ≡ false → left n ok (S.step n ok budget m) < left n ok m
  kept_falls o = falls n ok budget m k.going.shape k.going.sound o

  pub kept_bounds : Bounded n (limit n most_cost f.row_bound f.column_bound) m
  kept_bounds = limits n ok cost f.range m f.word.some k.going.sound k.going.priced k.limited

  -- ---- by what is next

  pub sound_at : (x : Next) → m.run.next ≡ x → Sound_at n ok x m
  sound_at x e = subst (λ x. Sound_at n ok x m) e k.going.sound.at_next

  pub more_primes : m.run.next ≡ S.Step4 → m.run.primes + 1 < 2 ^ 32
  more_primes e = omega (arith, kept_falls (ap over e), k.few.primes, f.counts)

  pub more_augmentations : (i j : ℕ) → m.run.next ≡ S.Step5 i j → m.run.augmentations + 1 < 2 ^ 32
  more_augmentations i j e = omega (arith, kept_falls (ap over e), k.few.augmentations, f.counts)

  -- ---- where step 6 adjusts

  module _ (e : m.run.next ≡ S.Step6) (ne : m.run.adjustments ≢ budget) (h : lowest n ok m.working m.run.rows m.run.columns < n * n) where
    abbrev z : ℤ
    z = get_or m.working (lowest n ok m.working m.run.rows m.run.columns) (pos 0)

    adjusts_to : S.step n ok budget m
        ≡ machine (S.adjusting m.run) (followed n ok z m.run.rows m.run.columns m.working) m.marks (lowered z m.run.rows m.row_prices) (raised z m.run.columns m.column_prices)
    unfolding S.step S.step_at S.step6
    adjusts_to =
        let q = lowest n ok m.working m.run.rows m.run.columns in
        let t : ltb q (n * n) ≡ true = T_true (ltb q (n * n)) (lt→ltb q (n * n) h) in
        let x : eqb m.run.adjustments budget ≡ false = T_false (eqb m.run.adjustments budget) (eqb_no _ budget ne) in
        rw (e, t, x)

    pub adjusts : Adjusts n ok m.run.rows m.run.columns z m.working m.row_prices m.column_prices
    adjusts =
        let next = rw adjusts_to at kept_step in
        let now = kept_bounds.cells _ h in
        let l = limits n ok cost f.range _ f.word.some next.going.sound next.going.priced next.limited in
        record {
          change = within_fits w64 now f.fits;
          back = within_fits w64 (within_neg now) f.fits;
          values = λ q hq. within_fits w64 (l.cells q (omega (arith, next.going.shape.working))) f.fits;
          lower = λ i hi. within_fits w64 (l.rows i (omega (arith, next.going.shape.row_prices))) f.fits;
          higher = λ j hj. within_fits w64 (l.columns j (omega (arith, next.going.shape.column_prices))) f.fits;
        }

-- ---- the same of some costs

module _ {n : ℕ} {mask : List ℕ} {budget : ℕ} {m : Machine} (g : Good n mask budget m) where
  pub good_step : Good n mask budget (S.step n (allows n mask) budget m)
  good_step = record { cost = g.cost; frame = g.frame; kept = kept_step g.kept }

  pub good_falls : over m.run.next ≡ false → left n (allows n mask) (S.step n (allows n mask) budget m) < left n (allows n mask) m
  good_falls = kept_falls g.kept
