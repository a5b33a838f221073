-- How far the printed numbers are from 0, and so how many signs they take: at most 13 in a column, and 15 for a sum.
use mathlib.Core.Path.{◌≡◌}
use mathlib.Core.List.{List}
use Prim.Native.Nat.{ℕ, ◌+◌, ◌*◌, ◌≤◌, ◌<◌}
use native.Mathlib.Nat.{mul-le-mul_right}
use native.Mathlib.Omega.{arith}
use lib.IntN.{ℤ, pos, ◌+ℤ◌}
use lib.ListN.{length, get_or}
use lib.Seq.{get_or-take}
use Rattle.lines.specs.Bounds.{Within}
use Rattle.lines.specs.Sum.{sumℤ}
use Rattle.lines.proofs.Signed as Z
use Rattle.lines.proofs.Squares.{place_lt}
use Rattle.lines.proofs.Sumsℤ.{sumℤ_within}
use Rattle.storm_case.specs.Scan.{Scan}
use Rattle.pairing.specs.declared.Pairs.{Pairs}
use Rattle.pairing.specs.Pair.{Loan, front, Solved}
use Rattle.text.specs.Numbers.{signed}
use Rattle.text.proofs.Lengths.{signed_short}
use Rattle.entries.proofs.Narrow.{Narrow, Sums}
use Rattle.price_list.proofs.SolverLaws.{row_price_near, column_price_near, working_near}
use Rattle.price_list.proofs.Theorems.{spare, event_of, row_price, event_price, AddsUp, zero_number}

-- farther from 0 at most
wider : {near far : ℕ} {z : ℤ} → Within near z → near ≤ far → Within far z
wider {near} {far} w h = record { above = omega (Z.signed, w.above, Z.neg_parts (pos near), Z.neg_parts (pos far), h); below = omega (Z.signed, w.below, h) }

added : {a b : ℕ} {x y : ℤ} → Within a x → Within b y → Within (a + b) (x +ℤ y)
added {a} {b} {x} {y} v w =
    let parts = Z.plus_parts x y in
    record {
      above = omega (Z.signed, parts, v.above, w.above, Z.neg_parts (pos a), Z.neg_parts (pos b), Z.neg_parts (pos (a + b)));
      below = omega (Z.signed, parts, v.below, w.below);
    }

-- in a column
signs : {far : ℕ} {z : ℤ} → Within far z → far < 1_000_000_000_000 → length (signed z) ≤ 13
signs {far} {z} w h = signed_short 11 far z w (omega arith)

-- of a sum
sum_signs : {far : ℕ} {z : ℤ} → Within far z → far < 100_000_000_000_000 → length (signed z) ≤ 15
sum_signs {far} {z} w h = signed_short 13 far z w (omega arith)

module _ {file : List ℕ} {s : Scan} {before : Loan} {p : Pairs} {after : Loan}
    (y : Solved file s before p after) (small : s.n ≤ 64) (paired : p.number ≡ 0) where
  abbrev n : ℕ
  n = s.n

  row_near : (i : ℕ) → i < n → Within 258_000_000_000 (row_price after i)
  unfolding front
  row_near i h = rw (get_or-take n after.rest.row_prices i (pos 0) h) at (row_price_near y.solved.solver (zero_number y small paired) small i h)

  event_near : (j : ℕ) → j < n → Within 258_000_000_000 (event_price after j)
  unfolding front
  event_near j h = rw (get_or-take n after.rest.column_prices j (pos 0) h) at (column_price_near y.solved.solver (zero_number y small paired) small j h)

  spare_near : (i j : ℕ) → i < n → j < n → Within 258_000_000_000 (spare n after i j)
  unfolding front
  spare_near i j hi hj =
      rw (get_or-take (n * n) after.rest.working (i * n + j) (pos 0) (place_lt n i j hi hj)) at (working_near y.solved.solver (zero_number y small paired) small i j hi hj)

  all_near : (f : ℕ → ℤ) → ((i : ℕ) → i < n → Within 258_000_000_000 (f i)) → Within 16_512_000_000_000 (sumℤ f n)
  all_near f near = wider (sumℤ_within 258_000_000_000 f n near) (mul-le-mul_right 258_000_000_000 small)

  module _ {total : ℤ} (up : AddsUp n after total) where
    pub narrow : {huts : List ℕ} → ((i : ℕ) → i < n → get_or huts i 0 < 65_536) → ((i : ℕ) → i < n → event_of after i < n)
        → Narrow n huts after.costs after.mask after.rest.working after.rest.columns after.rest.row_prices after.rest.column_prices
    narrow huts_small below = record {
      small = small;
      huts_small = huts_small;
      below = below;
      pairs = λ i h. rw (up.pairs i h) (signs (added (row_near i h) (event_near (event_of after i) (below i h))) (omega arith));
      rows = λ i h. signs (row_near i h) (omega arith);
      events = λ j h. signs (event_near j h) (omega arith);
      cells = λ i j hi hj one. rw (up.every i j hi hj one) (signs (added (added (row_near i hi) (event_near j hj)) (spare_near i j hi hj)) (omega arith));
      spares = λ i j hi hj one. signs (spare_near i j hi hj) (omega arith);
    }

    pub sums : Sums total (sumℤ (row_price after) n) (sumℤ (event_price after) n)
    sums =
        let rows = all_near (row_price after) row_near in
        let events = all_near (event_price after) event_near in
        record {
          total_short = rw up.total_is (sum_signs (added rows events) (omega arith));
          rows_short = sum_signs rows (omega arith);
          events_short = sum_signs events (omega arith);
        }
