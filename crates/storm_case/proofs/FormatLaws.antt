-- Theorem: the judgement accepts exactly the well-formed cases, and says what they say.
use mathlib.Core.Path.{◌≡◌, refl, sym, ap, ap₂, subst₂, ◌∙◌}
use mathlib.Core.Logic.{◌≢◌, ◌↔◌}
use mathlib.Core.List.{List, [], ◌∷◌, ◌++◌}
use Prim.Native.Nat.{ℕ, zero, suc, ◌+◌}
use native.Mathlib.Numerals.{add-one}
use native.Mathlib.Omega.{arith}
use lib.ListN.{length, drop, length-drop, drop_of_length-le}
use lib.Seq.{drop-cons, drop-drop, get_or-drop}
use Rattle.judgement.specs.Numbers.{AreBytes, u16_at, u32_at}
use Rattle.judgement.specs.Scan as D
use Rattle.storm_case.specs.Format.{Line, row, column, little_endian, line_bytes, lines_bytes, encode}
use Rattle.storm_case.specs.Format.{AllFit, WellFormed, Matches, Accepts, Reads, IsCase}
use Rattle.judgement.proofs.Samples.{example}
use Rattle.judgement.proofs.ScanLaws.{good_size, Filled, stays_refused, stays_accepted, accepted_filled}
use Rattle.judgement.proofs.OneRecord.{Does, refuses, sizes, adds_row, adds_column, ends, record_does}
use Rattle.storm_case.proofs.FormatBytes.{column_in, six_back, row_fits, column_fits, row_written, six_written}
use Rattle.storm_case.proofs.FormatScan.{row_from, column_from, first_kind, Further, no_further, row_further, column_further}
use Rattle.storm_case.proofs.FormatScan.{further_matches, further_well_formed}
use Rattle.storm_case.proofs.FormatTaken.{LinesTaken, size_taken, lines_taken, lines_short}

-- ---- what is accepted is well formed

-- what is left of a file that is accepted: lines, and the end
record Rest (file : List ℕ) (s t : D.Scan) : Type 0 where
  lines : List Line
  written : drop s.at file ≡ lines_bytes lines
  fit : AllFit lines
  further : Further file s t lines

-- no verdict but that of an accepted file
not_accepted : (file : List ℕ) (k number place : ℕ) {t : D.Scan} → D.judge_from file k (D.refused number place) ≡ D.accepted t → ⊥
not_accepted file k number place e = let z : ◌≡◌ {A = ℕ} 0 1 = cc (stays_refused file k number place) in omega arith

module _ (file : List ℕ) (small : AreBytes file) where
  small_from : (p : ℕ) → AreBytes (drop p file)
  small_from p i = rw (get_or-drop p file i 0) (small (p + i))

  rest_of : (t : D.Scan) (k : ℕ) (s : D.Scan) → s.n ≢ 0 → D.judge_from file k (D.more s) ≡ D.accepted t → Rest file s t
  unfolding D.judge_from lines_bytes line_bytes
  rest_of t zero s some e = let z : ◌≡◌ {A = ℕ} 0 1 = cc in absurd (omega arith)
  rest_of t (suc k) s some e = go (record_does file s) e (rest_of t k)
    where
      go : {j : D.Judged} → Does file s j → D.judge_from file k j ≡ D.accepted t
          → ((u : D.Scan) → u.n ≢ 0 → D.judge_from file k (D.more u) ≡ D.accepted t → Rest file u t) → Rest file s t
      go (refuses number place r) q rec = absurd (not_accepted file k number place q)
      go (sizes r) q rec = absurd (some r.first)
      go (adds_row r) q rec =
          let h = rec _ some q in
          let long = length-drop s.at file in
          let here = row_written (drop s.at file) (small_from s.at) (omega (arith, long, r.fits)) (first_kind file s.at ∙ r.kind_is) in
          record {
            lines = row (row_from file s.at) ∷ h.lines;
            written = here ∙ ap (λ (l : List ℕ). line_bytes (row (row_from file s.at)) ++ l) (drop-drop 9 s.at file ∙ h.written);
            fit = (row_fits (drop s.at file) (small_from s.at), h.fit);
            further = row_further file s refl h.further;
          }
      go (adds_column r) q rec =
          let h = rec _ some q in
          let long = length-drop s.at file in
          let here = six_written (drop s.at file) (small_from s.at) (omega (arith, long, r.fits)) (first_kind file s.at ∙ r.kind_is) in
          record {
            lines = column (column_from file s.at) ∷ h.lines;
            written = here ∙ ap (λ (l : List ℕ). line_bytes (column (column_from file s.at)) ++ l) (drop-drop 7 s.at file ∙ h.written);
            fit = (column_fits (drop s.at file) (small_from s.at), h.fit);
            further = column_further file s refl h.further;
          }
      go (ends r) q rec =
          let same : s ≡ t = cc (stays_accepted file k s) in
          let last : drop (suc s.at) file ≡ [] = drop_of_length-le file {i = suc s.at} (omega (arith, r.last)) in
          rw (← same) (record {
            lines = [];
            written = drop-cons file s.at 0 (omega (arith, r.last)) ∙ (λ i. r.kind i ∷ last i);
            fit = tt;
            further = no_further file s;
          })

module _ (file : List ℕ) (bytes : AreBytes file) where
  -- the size and the window are named by the scan itself
  reads : {s : D.Scan} {n window : ℕ} {lines : List Line} → s.n ≡ n → s.window ≡ window → WellFormed n window lines
      → file ≡ encode n window lines → Matches file s n window lines → Reads file s
  reads {s} {lines = lines} n w f e t = record {
    lines = lines;
    well_formed = subst₂ (λ a b. WellFormed a b lines) (sym n) (sym w) f;
    written = e ∙ ap₂ (λ a b. encode a b lines) (sym n) (sym w);
    matches = subst₂ (λ a b. Matches file s a b lines) (sym n) (sym w) t;
  }

  first_line : (k : ℕ) {j : D.Judged} {s : D.Scan} → Does file D.start j → D.judge_from file k j ≡ D.accepted s → Filled s → Reads file s
  unfolding encode
  first_line k (refuses number place r) q full = absurd (not_accepted file k number place q)
  first_line k {s = s} (sizes r) q full =
      let h = rest_of file bytes s k _ r.some q in
      let size : List ℕ = little_endian 2 (u16_at file 1) ++ little_endian 4 (u32_at file 3) in
      reads h.further.same_n h.further.same_window (further_well_formed file h.further full h.fit)
      (six_written file bytes r.fits r.kind ∙ ap (λ (l : List ℕ). 1 ∷ (size ++ l)) h.written) (further_matches file h.further full)
  first_line k (adds_row r) q full = absurd (r.some refl)
  first_line k (adds_column r) q full = absurd (r.some refl)
  first_line k (ends r) q full = absurd (r.some refl)

  pub accepted_well_formed : {s : D.Scan} → D.judged file ≡ D.accepted s → Reads file s
  unfolding D.judged D.judge_from
  accepted_well_formed e =
      first_line (length file) (record_does file D.start)
      (ap (λ k. D.judge_from file k (D.more D.start)) (sym (add-one (length file))) ∙ e) (accepted_filled file e)

-- ---- what is well formed is accepted

module _ {n window : ℕ} {lines : List Line} (h : WellFormed n window lines) where
  abbrev file : List ℕ
  file = encode n window lines

  size_back : column_in file ≡ record { area = n; clock = window }
  unfolding encode
  size_back = six_back 1 n window (lines_bytes lines) (omega (arith, h.small)) (omega (arith, h.low))

  reads_n : n ≡ u16_at file 1
  reads_n = sym (ap (λ e. e.area) size_back)

  reads_window : window ≡ u32_at file 3
  reads_window = sym (ap (λ e. e.clock) size_back)

  first_taken : D.judge_record file D.start ≡ D.more (D.with_size D.start (u16_at file 1) (u32_at file 3))
  unfolding encode little_endian
  first_taken =
      size_taken file D.start refl refl (good_size file D.start reads_n reads_window (omega (arith, h.some)) h.small h.low) refl (omega arith)

  rest_taken : LinesTaken file (length file) (D.with_size D.start (u16_at file 1) (u32_at file 3)) lines
  unfolding encode little_endian
  rest_taken =
      lines_taken file lines (length file) _ refl
      (record {
        some = omega (arith, h.some, reads_n);
        rows_due = omega (arith, h.all_rows, reads_n);
        columns_due = omega (arith, h.all_columns, reads_n);
      })
      h.fit (omega (arith, lines_short lines))

  verdict : D.judged file ≡ D.accepted rest_taken.scan
  unfolding D.judged D.judge_from
  verdict =
      ap (λ k. D.judge_from file k (D.more D.start)) (add-one (length file))
      ∙ ap (D.judge_from file (length file)) first_taken
      ∙ rest_taken.verdict

  matches : Matches file rest_taken.scan n window lines
  matches =
      subst₂ (λ a b. Matches file rest_taken.scan a b lines) (sym reads_n) (sym reads_window)
      (further_matches file rest_taken.further (accepted_filled file verdict))

  pub well_formed_accepted : Accepts n window lines
  well_formed_accepted = record { scan = rest_taken.scan; verdict = verdict; matches = matches }

-- ---- both ways

pub accepted_exactly : (file : List ℕ) → AreBytes file → ((s : D.Scan) × (D.judged file ≡ D.accepted s)) ↔ IsCase file
accepted_exactly file bytes = (
  λ a.
      let r = accepted_well_formed file bytes a.1 in
      record { n = a.0.n; window = a.0.window; lines = r.lines; well_formed = r.well_formed; written = r.written },
  λ c. let a = well_formed_accepted c.well_formed in (a.scan, ap D.judged c.written ∙ a.verdict),
)

-- ---- document 01's whole example, as its lines

pub example_written : encode 2 1000
    (row (record { hut = 7; area = 3; clock = 5000 }) ∷ row (record { hut = 9; area = 3; clock = 5400 })
    ∷ column (record { area = 3; clock = 5300 }) ∷ column (record { area = 3; clock = 5900 }) ∷ []) ≡ example
unfolding encode lines_bytes line_bytes little_endian
example_written = refl
