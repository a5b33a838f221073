-- How long the printed text is: at most 594 bytes of an accepted file, 9 for each of 64 rows and 18 for the total.
use mathlib.Core.Path.{◌≡◌}
use mathlib.Core.Bool.{not}
use mathlib.Core.List.{List}
use Prim.Native.Nat.{ℕ, zero, suc, ◌+◌, ◌*◌, ◌≤◌, ◌<◌}
use native.Mathlib.Omega.{arith}
use lib.Dec.{T, ltb, eqb, nltb→le}
use lib.ListN.{length, get_or, replicate, length-append, length-replicate}
use Rattle.lines.specs.Sum.{sum}
use Rattle.lines.proofs.Tests.{and_right}
use Rattle.lines.proofs.Sums.{sum_mono, sum_const}
use Rattle.lines.proofs.Sumsℤ.{sumℤ_pos}
use Rattle.assignment.specs.Problem.{column, AllowedPairing, total}
use Rattle.storm_case.specs.Numbers.{AreBytes}
use Rattle.storm_case.specs.Scan.{Scan, accepted, judged}
use Rattle.storm_case.specs.Case.{row_area, column_area, clock_error, may_pair, hut_of}
use Rattle.pairing.specs.Pair.{clock_cost}
use Rattle.storm_case.proofs.FormatBytes.{small16}
use Rattle.storm_case.proofs.SaidLaws.{said_at}
use Rattle.text.specs.Numbers.{sign, signed}
use Rattle.text.proofs.NumberLaws.{decimal_short}
use Rattle.valley.specs.Lines.{row_line, row_lines, total_line}
use Rattle.valley.specs.Report.{huts}

-- ---- a row's line

-- a hut of five digits and a column of two
short_line : (hut column : ℕ) → hut < 65536 → column < 64 → length (row_line hut column) ≤ 9
unfolding row_line
short_line hut column h c = simp length-append (omega (arith, decimal_short 4 hut (omega arith), decimal_short 1 column (omega arith)))

hut_small : (file : List ℕ) {s : Scan} → AreBytes file → judged file ≡ accepted s → (i : ℕ) → i < s.n → i < 64 → get_or (huts file) i 0 < 65536
unfolding hut_of
hut_small file {s} bytes e i h l =
    rw (said_at hut_of file (replicate 64 0) e i h (omega (arith, length-replicate {A = ℕ} 64 0))) (small16 file (get_or s.fragments i 0 + 1) bytes)

pub short_rows : (file columns : List ℕ) {s : Scan} → AreBytes file → judged file ≡ accepted s → s.n ≤ 64 → (n : ℕ) → n ≤ s.n
    → ((i : ℕ) → i < n → get_or columns i 0 < 64) → length (row_lines (huts file) columns n) ≤ 9 * n
unfolding row_lines
short_rows file columns bytes e small zero few below = omega arith
short_rows file columns bytes e small (suc n) few below =
    let line = short_line (get_or (huts file) n 0) (get_or columns n 0) (hut_small file bytes e n (omega arith) (omega arith)) (below n (omega arith)) in
    rw (length-append (row_lines (huts file) columns n) (row_line (get_or (huts file) n 0) (get_or columns n 0)))
    (omega (arith, line, short_rows file columns bytes e small n (omega arith) (λ i h. below i (omega arith))))

-- ---- the total's line

-- a pair that may be paired differs by at most the window
near : (file : List ℕ) (s : Scan) (i j : ℕ) → s.window ≤ 1_000_000_000 → T (may_pair file s i j) → clock_error file s i j ≤ 1_000_000_000
unfolding may_pair
near file s i j low t =
    let far = ltb s.window (clock_error file s i j) in
    omega (arith, nltb→le s.window (clock_error file s i j) (and_right (eqb (row_area file s i) (column_area file s j)) (not far) t))

module _ (file : List ℕ) (s : Scan) (columns : List ℕ) (small : s.n ≤ 64) (low : s.window ≤ 1_000_000_000)
    (pairing : AllowedPairing s.n s.n (may_pair file s) columns) where
  short_total : length (signed (total (clock_cost file s) s.n columns)) ≤ 11
  unfolding signed sign total
  short_total =
      let error : ℕ → ℕ = λ i. clock_error file s i (column columns i) in
      let most = sum_mono error (λ i. 1_000_000_000) s.n (λ i h. near file s i (column columns i) low (pairing.allowed i h)) in
      rw (sumℤ_pos error s.n) (decimal_short 10 (sum error s.n) (omega (arith, most, sum_const 1_000_000_000 s.n)))

  pub short_total_line : length (total_line (total (clock_cost file s) s.n columns)) ≤ 18
  unfolding total_line
  short_total_line = simp length-append (omega (arith, short_total))
