-- What the solver's promise says of a pairing's prices: a chosen pair has no spare, no spare is below 0, and no sum of prices overflows.
use mathlib.Core.Path.{◌≡◌, sym, ◌∙◌}
use mathlib.Core.Logic.{inl}
use Prim.Native.Nat.{ℕ, ◌+◌, ◌*◌, ◌≤◌, ◌<◌}
use native.Mathlib.Omega.{arith}
use lib.Dec.{T}
use lib.IntN.{ℤ, pos, ◌+ℤ◌, +ℤ_idr}
use lib.Signed.{◌≤ℤ◌}
use Rattle.lines.specs.Sum.{sumℤ}
use mir.Syntax.{w64}
use mir.Val.{SFits}
use Rattle.lines.specs.Bounds.{Within}
use Rattle.lines.proofs.Signed.{signed, plus_parts, neg_parts, within_fits}
use Rattle.lines.proofs.Squares.{place_lt}
use Rattle.lines.proofs.Sumsℤ.{le_sumℤ, sumℤ_within}
use Rattle.assignment.specs.Problem.{column}
use Rattle.assignment.specs.Prices.{PriceList}
use Rattle.assignment.proofs.Duality.{weighed}
use Rattle.steps.specs.declared.Answer.{Answer}
use Rattle.steps.specs.Lent.{Task, Buffers, allowed, cost}
use Rattle.steps.specs.Refusal.{accepted, verdict}
use Rattle.steps.specs.Promise.{row_price_at, column_price_at, working_at, largest, Promise}

module _ {t : Task} {before : Buffers} {a : Answer} {after : Buffers} (p : Promise 64 t before a after) (paired : a.number ≡ 0) where
  -- the steps ran
  ran : verdict t 64 before ≡ accepted
  ran = p.settled.ran (inl paired)

  abbrev list : PriceList t.n (allowed t) (cost t) (row_price_at after) (column_price_at after) (working_at t.n after)
  list = (p.prices ran).0

  -- a chosen pair
  no_spare : (i : ℕ) → i < t.n → working_at t.n after i (column after.columns i) ≡ pos 0
  no_spare i h =
      let q = p.pairing paired in
      let spare : ℕ → ℤ = λ k. working_at t.n after k (column after.columns k) in
      let whole : (k : ℕ) → k < t.n → pos 0 ≤ℤ spare k =
      λ k l. list.whole k (column after.columns k) l (q.pairing.below k l) (q.allowed k l) in
      let prices : ℤ = sumℤ (row_price_at after) t.n +ℤ sumℤ (column_price_at after) t.n in
      let all : prices ≡ prices +ℤ sumℤ spare t.n =
      sym (p.adds_up paired) ∙ p.totalled paired ∙ weighed list after.columns q in
      omega (signed, plus_parts prices (sumℤ spare t.n), all, le_sumℤ spare t.n i whole h, whole i h)

  pub pair_adds : (i : ℕ) → i < t.n
      → cost t i (column after.columns i) ≡ row_price_at after i +ℤ column_price_at after (column after.columns i)
  pair_adds i h =
      let q = p.pairing paired in
      list.equation i (column after.columns i) h (q.pairing.below i h) (q.allowed i h) ∙ rw (no_spare i h) (+ℤ_idr _)

  -- any allowed pair
  pub allowed_adds : (i j : ℕ) → i < t.n → j < t.n → T (allowed t i j)
      → (cost t i j ≡ row_price_at after i +ℤ column_price_at after j +ℤ working_at t.n after i j) × (pos 0 ≤ℤ working_at t.n after i j)
  allowed_adds i j hi hj ok = (list.equation i j hi hj ok, list.whole i j hi hj ok)

  -- ---- sums of prices

  -- each number of at most 64 rows is at most 258,000,000,000 away from 0
  near : {z : ℤ} → t.n ≤ 64 → Within (largest t.n) z → Within 258_000_000_000 z
  near small w =
      let parts = neg_parts (pos (largest t.n)) in
      record { above = omega (signed, w.above, parts, neg_parts (pos 258_000_000_000)); below = omega (signed, w.below) }

  pub row_price_near : t.n ≤ 64 → (i : ℕ) → i < t.n → Within 258_000_000_000 (row_price_at after i)
  row_price_near small i h = near small ((p.limits ran).rows i h)

  pub column_price_near : t.n ≤ 64 → (j : ℕ) → j < t.n → Within 258_000_000_000 (column_price_at after j)
  column_price_near small j h = near small ((p.limits ran).columns j h)

  pub working_near : t.n ≤ 64 → (i j : ℕ) → i < t.n → j < t.n → Within 258_000_000_000 (working_at t.n after i j)
  working_near small i j hi hj = near small ((p.limits ran).cells (i * t.n + j) (place_lt t.n i j hi hj))

  -- so 64 bits hold their sums
  held : (f : ℕ → ℤ) → t.n ≤ 64 → ((i : ℕ) → i < t.n → Within 258_000_000_000 (f i)) → (k : ℕ) → k ≤ t.n → SFits w64 (sumℤ f k)
  held f small within k h = within_fits w64 (sumℤ_within 258_000_000_000 f k (λ i l. within i (omega arith))) (omega arith)

  pub row_prices_held : t.n ≤ 64 → (k : ℕ) → k ≤ t.n → SFits w64 (sumℤ (row_price_at after) k)
  row_prices_held small = held (row_price_at after) small (row_price_near small)

  pub column_prices_held : t.n ≤ 64 → (k : ℕ) → k ≤ t.n → SFits w64 (sumℤ (column_price_at after) k)
  column_prices_held small = held (column_price_at after) small (column_price_near small)
