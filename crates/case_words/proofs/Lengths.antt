-- How long the case in words is: at most 4,161 bytes of an accepted file, and 3,776 for what fits none.
use mathlib.Core.Path.{◌≡◌}
use mathlib.Core.Bool.{Bool}
use mathlib.Core.List.{List, []}
use Prim.Native.Nat.{ℕ, ◌≤◌, ◌<◌}
use native.Mathlib.Omega.{arith}
use lib.ListN.{length, get_or, replicate, length-append, length-replicate}
use Rattle.lines.proofs.Tests.{cond_ind}
use Rattle.storm_case.specs.Numbers.{AreBytes}
use Rattle.storm_case.specs.Scan.{Scan, accepted, judged}
use Rattle.storm_case.specs.Case.{hut_of, row_area, row_clock, column_area, column_clock}
use Rattle.storm_case.proofs.FormatBytes.{small16, small32}
use Rattle.storm_case.proofs.SaidLaws.{said_at}
use Rattle.text.specs.Ascii.{ascii}
use Rattle.text.proofs.NumberLaws.{decimal_short}
use Rattle.text.proofs.Lengths.{decimal_right}
use Rattle.entries.proofs.Lengths.{each_short}
use Rattle.case_words.specs.Case.{row_line, event_line, row_lines, event_lines, told, case_lines}
use Rattle.case_words.specs.Unfit.{row_fits, event_fits, unfit_row, unfit_event, unfit_rows, unfit_events, unfit}

-- ---- what a file says

module _ (file : List ℕ) {s : Scan} (bytes : AreBytes file) (e : judged file ≡ accepted s) (small : s.n ≤ 64) where
  at : (f : List ℕ → Scan → ℕ → ℕ) (i : ℕ) → i < s.n → get_or (told f file) i 0 ≡ f file s i
  at f i h = said_at f file (replicate 64 0) e i h (omega (arith, length-replicate {A = ℕ} 64 0))

  pub hut_small : (i : ℕ) → i < s.n → get_or (told hut_of file) i 0 < 65_536
  unfolding hut_of
  hut_small i h = rw (at hut_of i h) (small16 file _ bytes)

  -- ---- the lines of the case

  row_short : (i : ℕ) → i < s.n → length (row_line i (get_or (told hut_of file) i 0) (get_or (told row_area file) i 0) (get_or (told row_clock file) i 0)) ≤ 32
  unfolding row_line row_area row_clock ascii
  row_short i h =
      let hut = hut_small i h in
      let area : get_or (told row_area file) i 0 < 65_536 = rw (at row_area i h) (small16 file _ bytes) in
      let clock : get_or (told row_clock file) i 0 < 4_294_967_296 = rw (at row_clock i h) (small32 file _ bytes) in
      simp length-append (omega (
        arith,
        decimal_right 5 1 i (omega arith) (omega arith),
        decimal_right 7 4 (get_or (told hut_of file) i 0) (omega arith) (omega arith),
        decimal_right 7 4 (get_or (told row_area file) i 0) (omega arith) (omega arith),
        decimal_right 12 9 (get_or (told row_clock file) i 0) (omega arith) (omega arith),
      ))

  event_short : (j : ℕ) → j < s.n → length (event_line j (get_or (told column_area file) j 0) (get_or (told column_clock file) j 0)) ≤ 32
  unfolding event_line column_area column_clock ascii
  event_short j h =
      let area : get_or (told column_area file) j 0 < 65_536 = rw (at column_area j h) (small16 file _ bytes) in
      let clock : get_or (told column_clock file) j 0 < 4_294_967_296 = rw (at column_clock j h) (small32 file _ bytes) in
      simp length-append (omega (
        arith,
        decimal_right 5 1 j (omega arith) (omega arith),
        decimal_right 14 4 (get_or (told column_area file) j 0) (omega arith) (omega arith),
        decimal_right 12 9 (get_or (told column_clock file) j 0) (omega arith) (omega arith),
      ))

  pub case_short : length (case_lines file s.n) ≤ 4161
  unfolding case_lines row_lines event_lines ascii
  case_short =
      simp length-append (omega (
        arith,
        each_short (λ i. row_line i (get_or (told hut_of file) i 0) (get_or (told row_area file) i 0) (get_or (told row_clock file) i 0)) 32 s.n row_short,
        each_short (λ j. event_line j (get_or (told column_area file) j 0) (get_or (told column_clock file) j 0)) 32 s.n event_short,
      ))

-- ---- what fits none

unfit_row_short : (fits : Bool) (row hut : ℕ) → row < 64 → hut < 65_536 → length (unfit_row fits row hut) ≤ 33
unfolding unfit_row ascii
unfit_row_short fits row hut r h =
    cond_ind (λ t. length t ≤ 33) fits [] _ (λ t. omega arith)
    (λ t. simp length-append (omega (arith, decimal_short 1 row (omega arith), decimal_short 4 hut (omega arith))))

unfit_event_short : (fits : Bool) (event : ℕ) → event < 64 → length (unfit_event fits event) ≤ 26
unfolding unfit_event ascii
unfit_event_short fits event h =
    cond_ind (λ t. length t ≤ 26) fits [] _ (λ t. omega arith) (λ t. simp length-append (omega (arith, decimal_short 1 event (omega arith))))

pub unfit_short : (n : ℕ) (mask huts : List ℕ) → n ≤ 64 → ((i : ℕ) → i < n → get_or huts i 0 < 65_536) → length (unfit n mask huts) ≤ 3776
unfolding unfit unfit_rows unfit_events
unfit_short n mask huts small hut =
    simp length-append (omega (
      arith,
      each_short (λ row. unfit_row (row_fits n mask row) row (get_or huts row 0)) 33 n (λ i h. unfit_row_short _ i _ (omega arith) (hut i h)),
      each_short (λ event. unfit_event (event_fits n mask event) event) 26 n (λ j h. unfit_event_short _ j (omega arith)),
    ))
