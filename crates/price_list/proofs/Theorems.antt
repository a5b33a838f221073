-- Theorems of the price list: every line adds up, no spare is negative, and the sums are those of all prices, of which the total is made.
use mathlib.Core.Path.{◌≡◌, refl, sym, ap, ◌∙◌}
use mathlib.Core.Bool.{true}
use mathlib.Core.List.{List}
use Prim.Native.Nat.{ℕ, ◌+◌, ◌*◌, ◌≤◌, ◌<◌}
use native.Mathlib.Omega.{arith}
use lib.IntN.{ℤ, pos, ◌+ℤ◌}
use lib.Signed.{◌≤ℤ◌}
use lib.ListN.{length, get_or, get_or-append}
use lib.Seq.{get_or-take}
use Rattle.lines.specs.Sum.{sumℤ}
use Rattle.lines.specs.Square.{cell, square}
use Rattle.lines.proofs.Tests.{eqb_yes}
use Rattle.lines.proofs.Squares.{place_lt, length_square, square_at}
use Rattle.lines.proofs.Sumsℤ.{sumℤ_ext}
use Rattle.steps.specs.Lent.{allows, cost_at}
use Rattle.pairing.specs.declared.Pairs.{Pairs}
use Rattle.storm_case.specs.Scan.{Scan, Judged, more, refused, accepted, judged}
use Rattle.storm_case.specs.Case.{pair_cost, mask_byte, filled}
use Rattle.pairing.specs.Pair.{Loan, enough_room, front, Solved, PairPromise}
use Rattle.storm_case.proofs.ScanLaws.{never_more, accepted_filled, refused_some}
use Rattle.listing.specs.Listed.{SumOf}
use Rattle.price_list.proofs.FitLaws.{mask_at}
use Rattle.price_list.proofs.SolverLaws.{pair_adds, allowed_adds, row_prices_held, column_prices_held}

-- the numbers of a line, of n rows
module _ (n : ℕ) (r : Loan) where
  abbrev pub difference : ℕ → ℕ → ℤ
  difference row event = cell (pos 0) n r.costs row event

  abbrev pub spare : ℕ → ℕ → ℤ
  spare row event = cell (pos 0) n r.rest.working row event

abbrev pub event_of : Loan → ℕ → ℕ
event_of r row = get_or r.rest.columns row 0

abbrev pub row_price : Loan → ℕ → ℤ
row_price r row = get_or r.rest.row_prices row (pos 0)

abbrev pub event_price : Loan → ℕ → ℤ
event_price r event = get_or r.rest.column_prices event (pos 0)

-- what is claimed of n rows with this total
pub record AddsUp (n : ℕ) (r : Loan) (total : ℤ) : Type 0 where
  pub pairs : (row : ℕ) → row < n → difference n r row (event_of r row) ≡ row_price r row +ℤ event_price r (event_of r row)
  pub every : (row event : ℕ) → row < n → event < n → cell 0 n r.mask row event ≡ 1
      → difference n r row event ≡ row_price r row +ℤ event_price r event +ℤ spare n r row event
  pub spares : (row event : ℕ) → row < n → event < n → cell 0 n r.mask row event ≡ 1 → pos 0 ≤ℤ spare n r row event
  pub total_is : total ≡ sumℤ (row_price r) n +ℤ sumℤ (event_price r) n
  -- what `sum` gives back
  pub rows : (z : ℤ) → SumOf n r.rest.row_prices z → z ≡ sumℤ (row_price r) n
  pub events : (z : ℤ) → SumOf n r.rest.column_prices z → z ≡ sumℤ (event_price r) n

module _ {file : List ℕ} {s : Scan} {before : Loan} {p : Pairs} {after : Loan}
    (y : Solved file s before p after) (small : s.n ≤ 64) (paired : p.number ≡ 0) where
  abbrev n : ℕ
  n = s.n

  pub zero_number : y.solved.answer.number ≡ 0
  zero_number = sym (ap (λ (q : Pairs). q.number) y.solved.given) ∙ paired

  -- the cells of the front are those of the buffers
  cost_same : (i j : ℕ) → i < n → j < n → difference n after i j ≡ cost_at n (square (pair_cost file s) n) i j
  unfolding cost_at filled
  cost_same i j hi hj =
      let inside : i * n + j < length (square (pair_cost file s) n) = omega (arith, place_lt n i j hi hj, length_square (pair_cost file s) n) in
      rw y.costs (get_or-append (square (pair_cost file s) n) _ (pos 0) (i * n + j) inside)

  mask_same : (i j : ℕ) → i < n → j < n → cell 0 n after.mask i j ≡ cell 1 n (square (mask_byte file s) n) i j
  mask_same i j hi hj = mask_at y i j hi hj ∙ sym (square_at 1 (mask_byte file s) n i j hi hj)

  pairs_add : (row : ℕ) → row < n → difference n after row (event_of after row) ≡ row_price after row +ℤ event_price after (event_of after row)
  unfolding front
  pairs_add row h =
      let rest = after.rest in
      let event = get_or-take n rest.columns row 0 h in
      let below : event_of after row < n = rw event at ((y.solved.solver.pairing zero_number).pairing.below row h) in
      cost_same row (event_of after row) h below
      ∙ (rw (event, get_or-take n rest.row_prices row (pos 0) h, get_or-take n rest.column_prices (event_of after row) (pos 0) below)
      at (pair_adds y.solved.solver zero_number row h))

  every_adds : (i j : ℕ) → i < n → j < n → cell 0 n after.mask i j ≡ 1
      → (difference n after i j ≡ row_price after i +ℤ event_price after j +ℤ spare n after i j) × (pos 0 ≤ℤ spare n after i j)
  unfolding front allows
  every_adds i j hi hj one =
      let rest = after.rest in
      let held = allowed_adds y.solved.solver zero_number i j hi hj (eqb_yes _ 1 (sym (mask_same i j hi hj) ∙ one)) in
      let working = get_or-take (n * n) rest.working (i * n + j) (pos 0) (place_lt n i j hi hj) in (
        cost_same i j hi hj
            ∙ (rw (get_or-take n rest.row_prices i (pos 0) hi, get_or-take n rest.column_prices j (pos 0) hj, working) at held.0),
        rw working at held.1,
      )

  row_sums : (k : ℕ) → k ≤ n → sumℤ (λ i. get_or (front n after.rest).row_prices i (pos 0)) k ≡ sumℤ (row_price after) k
  unfolding front
  row_sums k h = sumℤ_ext _ _ k (λ i l. get_or-take n after.rest.row_prices i (pos 0) (omega arith))

  event_sums : (k : ℕ) → k ≤ n → sumℤ (λ j. get_or (front n after.rest).column_prices j (pos 0)) k ≡ sumℤ (event_price after) k
  unfolding front
  event_sums k h = sumℤ_ext _ _ k (λ j l. get_or-take n after.rest.column_prices j (pos 0) (omega arith))

  solved_adds_up : AddsUp n after p.total
  solved_adds_up = record {
    pairs = pairs_add;
    every = λ i j hi hj one. (every_adds i j hi hj one).0;
    spares = λ i j hi hj one. (every_adds i j hi hj one).1;
    total_is =
        ap (λ (q : Pairs). q.total) y.solved.given ∙ y.solved.solver.adds_up zero_number
        ∙ rw (row_sums n (omega arith), event_sums n (omega arith));
    rows = λ z given. given (λ k h. rw (← row_sums k h) (row_prices_held y.solved.solver zero_number small k h));
    events = λ z given. given (λ k h. rw (← event_sums k h) (column_prices_held y.solved.solver zero_number small k h));
  }

-- of every file that is paired
pub adds_up : {file : List ℕ} {before : Loan} {p : Pairs} {after : Loan} → PairPromise file before p after → enough_room before ≡ true → p.number ≡ 0
    → AddsUp p.n after p.total
adds_up {file} {before} {p} {after} x room paired = go (judged file) refl
  where
    go : (j : Judged) → judged file ≡ j → AddsUp p.n after p.total
    go (more s) e = absurd (never_more file e)
    go (refused number place) e =
        let same : p.number ≡ number = ap (λ (q : Pairs). q.number) (x.unread room number place e).0 in
        absurd (omega (arith, refused_some file e))
    go (accepted s) e =
        let y = x.solved room s e in
        rw (ap (λ (q : Pairs). q.n) y.solved.given) (solved_adds_up y (accepted_filled file e).small paired)
