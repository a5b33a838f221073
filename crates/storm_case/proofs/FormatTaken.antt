-- The records of written lines, one after another, are taken: the scan comes to the end and accepts.
use mathlib.Core.Path.{◌≡◌, refl, sym, ap, ◌∙◌}
use mathlib.Core.Logic.{◌≢◌}
use mathlib.Core.Bool.{false}
use mathlib.Core.List.{List, [], ◌∷◌}
use Prim.Native.Nat.{ℕ, zero, suc, ◌+◌, ◌-◌, ◌≤◌, ◌<◌}
use native.Mathlib.Omega.{arith}
use lib.ListN.{length, get_or, drop, length-drop, length-append}
use lib.Seq.{drop-drop}
use Rattle.records.specs.Records.{known, body_length}
use Rattle.judgement.specs.Numbers.{u16_at, u32_at}
use Rattle.judgement.specs.Scan as D
use Rattle.storm_case.specs.Format.{Line, row, column, rows, columns, little_endian, line_bytes, lines_bytes, AllFit}
use Rattle.records.proofs.RecordLaws.{whole}
use Rattle.judgement.proofs.ScanLaws.{size_good, line_good, end_good, stays_accepted}
use Rattle.judgement.proofs.ScanLaws.{record_whole, kind_size, kind_fragment, kind_event, kind_end}
use Rattle.storm_case.proofs.FormatBytes.{row_in, column_in, row_back, six_back}
use Rattle.storm_case.proofs.FormatScan.{first_kind, Further, no_further, row_further, column_further}

-- the records of some lines, and their verdict
pub record LinesTaken (file : List ℕ) (k : ℕ) (s : D.Scan) (lines : List Line) : Type 0 where
  pub scan : D.Scan
  pub verdict : D.judge_from file k (D.more s) ≡ D.accepted scan
  pub further : Further file s scan lines

module _ (file : List ℕ) (s : D.Scan) {bytes : List ℕ} (w : drop s.at file ≡ bytes) where
  kind_is : get_or file s.at 0 ≡ get_or bytes 0 0
  kind_is = sym (first_kind file s.at) ∙ ap (λ (l : List ℕ). get_or l 0 0) w

  -- as many bytes are left
  left : length file - s.at ≡ length bytes
  left = sym (length-drop s.at file) ∙ ap length w

  pub size_taken : s.n ≡ 0 → D.bad_size file s ≡ false → get_or bytes 0 0 ≡ 1 → 7 ≤ length bytes
      → D.judge_record file s ≡ D.more (D.with_size s (u16_at file (s.at + 1)) (u32_at file (s.at + 3)))
  unfolding known body_length
  size_taken none good e long =
      let kind = kind_is ∙ e in
      let here = whole file s.at (omega (arith, left)) (rw kind) {m = 6} (rw kind) (omega (arith, left)) in
      sym (size_good file s none good ∙ kind_size file s kind ∙ record_whole file s here refl)

  row_taken : s.n ≢ 0 → length s.fragments ≢ s.n → get_or bytes 0 0 ≡ 2 → 9 ≤ length bytes
      → D.judge_record file s ≡ D.more (D.with_row s)
  unfolding known body_length
  row_taken some fewer e long =
      let kind = kind_is ∙ e in
      let here = whole file s.at (omega (arith, left)) (rw kind) {m = 8} (rw kind) (omega (arith, left)) in
      sym (line_good s _ _ some fewer ∙ kind_fragment file s kind ∙ record_whole file s here refl)

  column_taken : s.n ≢ 0 → length s.events ≢ s.n → get_or bytes 0 0 ≡ 3 → 7 ≤ length bytes
      → D.judge_record file s ≡ D.more (D.with_column s)
  unfolding known body_length
  column_taken some fewer e long =
      let kind = kind_is ∙ e in
      let here = whole file s.at (omega (arith, left)) (rw kind) {m = 6} (rw kind) (omega (arith, left)) in
      sym (line_good s _ _ some fewer ∙ kind_event file s kind ∙ record_whole file s here refl)

  end_taken : s.n ≢ 0 → length s.fragments ≡ s.n → length s.events ≡ s.n → get_or bytes 0 0 ≡ 4 → length bytes ≡ 1
      → D.judge_record file s ≡ D.accepted s
  unfolding known body_length
  end_taken some r c e one =
      let kind = kind_is ∙ e in
      let here = whole file s.at (omega (arith, left)) (rw kind) {m = 0} (rw kind) (omega arith) in
      sym (end_good file s some r c (omega (arith, left))
      ∙ kind_end file s (omega (arith, kind)) (omega (arith, kind)) (omega (arith, kind)) ∙ record_whole file s here refl)

-- what is left of n
pub record LinesDue (s : D.Scan) (lines : List Line) : Type 0 where
  pub some : s.n ≢ 0
  pub rows_due : length s.fragments + length (rows lines) ≡ s.n
  pub columns_due : length s.events + length (columns lines) ≡ s.n

-- one record for each line, and one for the end
pub lines_taken : (file : List ℕ) (lines : List Line) (k : ℕ) (s : D.Scan) → drop s.at file ≡ lines_bytes lines
    → LinesDue s lines → AllFit lines → length lines < k → LinesTaken file k s lines
unfolding D.judge_from lines_bytes rows columns line_bytes little_endian
lines_taken file [] zero s w d fit room = absurd (omega arith)
lines_taken file [] (suc k) s w d fit room =
    let end = end_taken file s w d.some (omega (arith, d.rows_due)) (omega (arith, d.columns_due)) refl refl in
    record { scan = s; verdict = ap (D.judge_from file k) end ∙ stays_accepted file k s; further = no_further file s }
lines_taken file (row f ∷ lines) zero s w d fit room = absurd (omega arith)
lines_taken file (row f ∷ lines) (suc k) s w d fit room =
    let due : LinesDue (D.with_row s) lines = record {
      some = d.some;
      rows_due = omega (arith, d.rows_due, length-append s.fragments (s.at ∷ []));
      columns_due = d.columns_due;
    } in
    let t = lines_taken file lines k (D.with_row s) (sym (drop-drop 9 s.at file) ∙ ap (drop 9) w) due fit.1 (omega arith) in
    record {
      scan = t.scan;
      verdict = ap (D.judge_from file k) (row_taken file s w d.some (omega (arith, d.rows_due)) refl (omega arith)) ∙ t.verdict;
      further = row_further file s (ap row_in w ∙ row_back f (lines_bytes lines) fit.0) t.further;
    }
lines_taken file (column e ∷ lines) zero s w d fit room = absurd (omega arith)
lines_taken file (column e ∷ lines) (suc k) s w d fit room =
    let due : LinesDue (D.with_column s) lines = record {
      some = d.some;
      rows_due = d.rows_due;
      columns_due = omega (arith, d.columns_due, length-append s.events (s.at ∷ []));
    } in
    let t = lines_taken file lines k (D.with_column s) (sym (drop-drop 7 s.at file) ∙ ap (drop 7) w) due fit.1 (omega arith) in
    let same = ap column_in w ∙ six_back 3 e.area e.clock (lines_bytes lines) fit.0.area fit.0.clock in
    record {
      scan = t.scan;
      verdict = ap (D.judge_from file k) (column_taken file s w d.some (omega (arith, d.columns_due)) refl (omega arith)) ∙ t.verdict;
      further = column_further file s same t.further;
    }

pub lines_short : (lines : List Line) → length lines < length (lines_bytes lines)
unfolding lines_bytes line_bytes little_endian
lines_short [] = omega arith
lines_short (row f ∷ lines) = omega (arith, lines_short lines)
lines_short (column e ∷ lines) = omega (arith, lines_short lines)
