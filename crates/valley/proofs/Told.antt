-- Theorem: what the program prints of a well-formed case is the lines of a least pairing of the case's lines, or that there is none.
use mathlib.Core.Path.{◌≡◌, sym, ap, ap₂, ◌∙◌}
use mathlib.Core.List.{List, ◌++◌}
use Prim.Native.Nat.{ℕ, ◌≤◌, ◌<◌}
use native.Mathlib.Omega.{arith}
use lib.IntN.{pos}
use lib.ListN.{length, get_or, take, replicate, length-replicate}
use lib.Seq.{get_or-take}
use Rattle.lines.proofs.Squares.{table_at}
use Rattle.lines.proofs.Tests.{cases}
use Rattle.storm_case.specs.Case.{hut_of}
use Rattle.storm_case.specs.Format.{Line, row_at, encode, WellFormed}
use Rattle.storm_case.proofs.FormatBytes.{case_are_bytes}
use Rattle.storm_case.proofs.FormatLaws.{well_formed_accepted}
use Rattle.storm_case.proofs.SaidLaws.{said_at}
use Rattle.pairing.specs.Told.{summed, AboutLines}
use Rattle.pairing.proofs.Fronts.{fresh_room}
use Rattle.pairing.proofs.AboutLines.{about_lines}
use Rattle.valley.specs.Lines.{row_lines, total_line, lines}
use Rattle.valley.specs.Report.{huts, Reported}
use Rattle.valley.specs.Told.{huts_of, Tells, paired, unpaired}
use Rattle.valley.proofs.LineLaws.{same_rows, lines_paired, lines_none}
use Rattle.valley.proofs.Theorems.{whole_text}

module _ {n window : ℕ} {case_lines : List Line} (h : WellFormed n window case_lines) {out : List ℕ} {r : ℕ} {after : List ℕ}
    (x : Reported (encode n window case_lines) out r after) (room : 1024 ≤ length out) where
  abbrev file : List ℕ
  file = encode n window case_lines

  abbrev columns : List ℕ
  columns = x.filled.rest.columns

  about : AboutLines n window case_lines x.pairs (take n columns)
  about = about_lines h fresh_room x.promise

  text : take r after ≡ lines (huts file) x.pairs columns
  text = whole_text file (case_are_bytes n window case_lines) x room

  same_hut : (i : ℕ) → i < n → get_or (huts file) i 0 ≡ get_or (huts_of n case_lines) i 0
  same_hut i l =
      let reads = well_formed_accepted h in
      said_at hut_of file (replicate 64 0) reads.verdict i (omega (arith, reads.matches.size)) (omega (arith, h.small, length-replicate {A = ℕ} 64 0))
      ∙ reads.matches.hut i l
      ∙ sym (table_at 0 (λ i. (row_at case_lines i).hut) n i l)

  rows_told : row_lines (huts file) columns n ≡ row_lines (huts_of n case_lines) (take n columns) n
  rows_told = same_rows (huts file) (huts_of n case_lines) columns (take n columns) n same_hut (λ i l. sym (get_or-take n columns i 0 l))

  text_paired : x.pairs.number ≡ 0
      → take r after ≡ row_lines (huts_of n case_lines) (take n columns) n ++ total_line (pos (summed n case_lines (take n columns)))
  text_paired e =
      let total = total_line (pos (summed n case_lines (take n columns))) in
      text
      ∙ lines_paired (huts file) x.pairs columns e
      ∙ ap₂ (λ k t. row_lines (huts file) columns k ++ total_line t) about.size (about.totalled e)
      ∙ ap (λ (l : List ℕ). l ++ total) rows_told

  pub tells : Tells n window case_lines (take r after)
  tells =
      cases about.settled (λ e. paired (take n columns) (about.paired e) (text_paired e))
      (λ e. unpaired (about.impossible e) (text ∙ lines_none (huts file) x.pairs columns e))
