-- Steps 4 and 6 by the least key: each of the ways that the code goes is what the step's definition gives.
use mathlib.Core.Path.{◌≡◌, refl, sym}
use mathlib.Core.Logic.{◌≢◌, dite}
use mathlib.Core.Bool.{Bool, true, false, cond}
use mathlib.Core.List.{List}
use Prim.Native.Nat.{ℕ, ◌+◌, ◌*◌, ◌≤◌, ◌<◌}
use native.Mathlib.Decide.{dec_lt}
use native.Mathlib.Omega.{arith}
use borrow.Author.Tests.{lt-ltb, le-ltb}
use lib.Dec.{T, ltb}
use lib.IntN.{ℤ, pos, ◌-ℤ◌}
use lib.Signed.{lt_z, ◌≤ℤ◌}
use lib.ListN.{set}
use Rattle.lines.specs.Square.{cell}
use Rattle.steps.specs.Steps.{Run, NoPairing, Unfinished, Step6, to, star_in_row, covering, reaching, zero_column, step4, adjusting, lowest, followed, lowered, raised, step6}
use Rattle.steps.specs.Going.{Open, NoZero}
use Rattle.steps.proofs.Turns.{zero_found, lowest_found}
use Rattle.ground.proofs.Adjusting.{step6_none, step6_spent, step6_adjusts}
use Rattle.keyed.specs.Keys.{value_of, column_of, row_of}
use Rattle.keyed.specs.Best.{key_at, Best}
use Rattle.quick.proofs.Choose.{none_open, column_named, no_zero, column_found, row_found, some_open, least_found}

module _ (B n : ℕ) (ok : ℕ → ℕ → Bool) (limit : ℤ) (base : n ≤ B) (working : List ℤ) (r : Run) (d : ℕ)
    (above : (i j : ℕ) → i < n → j < n → T (ok i j) → pos 0 ≤ℤ cell (pos 0) n working i j)
    {best : ℤ} (b : Best B n ok limit working r.rows r.columns (pos d) best) where
  abbrev pub Bounded : Type 0
  Bounded = (i j : ℕ) → i < n → j < n → Open ok r.rows r.columns i j → lt_z (key_at B n ok limit working (pos d) i j) limit ≡ true

  -- ---- step 4

  module _ (marks : List ℕ) where
    no_zero_left : NoZero n ok working r.rows r.columns → step4 n ok working r marks ≡ (to Step6 r, marks)
    unfolding step4
    no_zero_left none =
        let j = zero_column n ok working r.rows r.columns in
        let h : n ≤ j = dite (dec_lt j n) (λ l. let z = zero_found n ok working r.rows r.columns l in absurd (none _ _ z.row_below z.column_below z.is_open z.zero)) (λ l. omega arith) in
        rw (le-ltb j n h)

    pub keyed_none : Bounded → lt_z best limit ≡ false → step4 n ok working r marks ≡ (to Step6 r, marks)
    keyed_none near far = no_zero_left (λ i j hi hj o z. none_open B n ok limit base working r.rows r.columns d above b near far i j hi hj o)

    pub keyed_above : lt_z best limit ≡ true → lt_z (pos d) (value_of B best) ≡ true → step4 n ok working r marks ≡ (to Step6 r, marks)
    keyed_above near t = no_zero_left (no_zero B n ok limit base working r.rows r.columns d above b near t)

    pub keyed_zero : lt_z best limit ≡ true → lt_z (pos d) (value_of B best) ≡ false
        → let i = row_of B best in
        let j = column_of B best in
        let marked = set marks (i * n + j) 2 in
        let s = star_in_row n marked i in
        step4 n ok working r marks ≡ (cond (ltb s n) (covering i s r) (reaching i j r), marked)
    unfolding step4
    keyed_zero near t =
        let e = column_found B n ok limit base working r.rows r.columns d above b near t in
        let f = row_found B n ok limit base working r.rows r.columns d above b near t in
        rw (e, f, lt-ltb (column_of B best) n (named_below near))
      where
        named_below : lt_z best limit ≡ true → column_of B best < n
        named_below near = rw (column_named B n ok limit base working r.rows r.columns d above b near) (b.hit near).in_row.column_below

  -- ---- step 6

  module _ (budget : ℕ) (row_prices column_prices : List ℤ) where
    pub keyed_blocked : Bounded → lt_z best limit ≡ false
        → step6 n ok budget r working row_prices column_prices ≡ (to NoPairing r, working, row_prices, column_prices)
    keyed_blocked near far =
        let q = lowest n ok working r.rows r.columns in
        let h : n * n ≤ q = dite (dec_lt q (n * n))
        (λ l. let m = lowest_found n ok working r.rows r.columns l in
        absurd (none_open B n ok limit base working r.rows r.columns d above b near far _ _ m.row_below m.column_below m.is_open))
        (λ l. omega arith) in
        sym (step6_none n ok working r budget row_prices column_prices h refl)

    module _ (near : lt_z best limit ≡ true) where
      found : lowest n ok working r.rows r.columns < n * n
      found = some_open B n ok limit base working r.rows r.columns d above b near

      pub keyed_spent : r.adjustments ≡ budget → step6 n ok budget r working row_prices column_prices ≡ (to Unfinished r, working, row_prices, column_prices)
      keyed_spent e = sym (step6_spent n ok working r budget row_prices column_prices found e refl)

      pub keyed_adjusts : r.adjustments ≢ budget
          → let m = value_of B best -ℤ pos d in
          step6 n ok budget r working row_prices column_prices
          ≡ (adjusting r, followed n ok m r.rows r.columns working, lowered m r.rows row_prices, raised m r.columns column_prices)
      keyed_adjusts ne =
          sym (step6_adjusts n ok working r budget row_prices column_prices found (value_of B best -ℤ pos d) _ _ _
          (sym (least_found B n ok limit base working r.rows r.columns d above b near)) ne refl refl refl refl)
