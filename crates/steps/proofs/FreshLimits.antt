-- Limits of a fresh run: every price and working value on the way from the start of an accepted call, so that nothing overflows.
use mathlib.Core.Path.{◌≡◌}
use mathlib.Core.Bool.{false}
use Prim.Native.Nat.{ℕ, ◌+◌, ◌*◌, ◌^◌, ◌≤◌, ◌<◌}
use native.Mathlib.Omega.{arith}
use lib.Dec.{T, T_not, eqb}
use lib.IntN.{ℤ, pos, negsuc}
use lib.Signed.{lt_z}
use lib.ListN.{get_or}
use mir.Syntax.{w64}
use mir.Val.{SFits}
use Rattle.lines.specs.Bounds.{Within}
use Rattle.lines.proofs.Tests.{both, nor}
use Rattle.lines.proofs.Squares.{place_lt}
use Rattle.lines.proofs.Signed.{signed, within_fits}
use Rattle.steps.specs.Lent.{Task, Buffers, most_cost, allowed, cost, allows, cost_at}
use Rattle.steps.specs.Refusal.{accepted, out_of_range, bad_cost, verdict}
use Rattle.steps.specs.Steps.{Machine, start}
use Rattle.steps.specs.Outcome.{reached}
use Rattle.steps.specs.Promise.{largest}
use Rattle.steps.proofs.Runs.{kept}
use Rattle.steps.proofs.Limits.{limit_fresh}
use Rattle.steps.specs.Bounds.{Limited, Bounded}
use Rattle.steps.proofs.Limited.{limited_start, limited_step, limits}
use Rattle.steps.proofs.Fresh.{Fresh, fresh_step, fresh_start}
use Rattle.steps.proofs.Verdicts.{AcceptedCall, accepted_is}

module _ (limit : ℕ) (t : Task) (before : Buffers) where
  pub cost_within : AcceptedCall limit t before → (i j : ℕ) → i < t.n → j < t.n → T (allowed t i j) → Within most_cost (cost t i j)
  unfolding allows cost_at bad_cost out_of_range
  cost_within f i j hi hj u =
      let q = i * t.n + j in
      in_range (get_or t.costs q (pos 0)) (λ bad. T_not (bad_cost t.costs t.mask q) (f.fit.range q (place_lt t.n i j hi hj)) (both (eqb (get_or t.mask q 1) 1) _ u bad))
    where
      in_range : (z : ℤ) → (T (out_of_range z) → ⊥) → Within most_cost z
      in_range z f =
          let e = nor (lt_z z (negsuc 999_999_999)) (lt_z (pos 1_000_000_000) z) f in
          let a : lt_z z (negsuc 999_999_999) ≡ false = e.0 in
          let b : lt_z (pos 1_000_000_000) z ≡ false = e.1 in
          record { above = omega signed; below = omega signed }

  module _ (v : verdict t limit before ≡ accepted) where
    fit : AcceptedCall limit t before
    fit = accepted_is limit t before v

    within : (i j : ℕ) → i < t.n → j < t.n → T (allowed t i j) → Within most_cost (cost t i j)
    within = cost_within fit

    Limited_fresh : Machine → Type 0
    Limited_fresh m = Fresh t.n (allowed t) (cost t) m × Limited t.n most_cost most_cost 0 m

    limited : (k : ℕ) → Limited_fresh (reached t k)
    unfolding Limited_fresh
    limited k =
        kept t.n (allowed t) t.budget Limited_fresh
        (λ m h. (
          fresh_step t.n (allowed t) (cost t) t.budget m h.0,
          limited_step t.n (allowed t) (cost t) within t.budget m h.0.going.shape h.0.going.sound h.0.going.priced h.1,
        ))
        (start t.n (allowed t) (cost t))
        (fresh_start t.n (allowed t) (cost t) fit.fit.some fit.rows, limited_start t.n (allowed t) (cost t) within fit.rows) k

    -- at every step on the way
    pub in_limits : (k : ℕ) → Bounded t.n (largest t.n) (reached t k)
    unfolding Limited_fresh
    in_limits k =
        let h = limited k in
        rw (limit_fresh t.n most_cost) at (limits t.n (allowed t) (cost t) within (reached t k) fit.fit.some h.0.going.sound h.0.going.priced h.1)

-- which is below 2^42 up to n = 256, so that 64 bits hold it
pub limits_small : (n : ℕ) → n ≤ 256 → largest n < 2 ^ 42
limits_small n h = omega arith

pub fits_64_bits : (n : ℕ) → n ≤ 256 → (z : ℤ) → Within (largest n) z → SFits w64 z
fits_64_bits n h z w = within_fits w64 w (omega (arith, limits_small n h))
