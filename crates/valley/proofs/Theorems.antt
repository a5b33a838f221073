-- Theorems of what is printed: one text for a file, the first 4,096 bytes decide it, and the program's buffer holds all of it.
use mathlib.Core.Path.{◌≡◌, refl, sym, ap, ◌∙◌}
use mathlib.Core.List.{List}
use Prim.Native.Nat.{ℕ, ◌≤◌, ◌<◌}
use native.Mathlib.Omega.{arith}
use lib.ListN.{length, get_or, take, replicate, length-append}
use lib.Seq.{get_or-take}
use Rattle.lines.proofs.Tests.{cases}
use Rattle.pairing.specs.declared.Pairs.{Pairs}
use Rattle.storm_case.specs.Numbers.{AreBytes}
use Rattle.storm_case.specs.Scan.{Scan, Judged, more, refused, accepted, judged}
use Rattle.storm_case.specs.Case.{hut_of}
use Rattle.pairing.specs.Pair.{Loan, fresh, front, Solved, PairPromise}
use Rattle.pairing.proofs.Fronts.{fresh_room}
use Rattle.storm_case.proofs.ScanLaws.{never_more, accepted_filled}
use Rattle.storm_case.proofs.Decides.{cut_said, refused_early}
use Rattle.pairing.proofs.OnlyPairs.{OnlyAnswer, only_pairs, first_pairs}
use Rattle.text.specs.Text.{put}
use Rattle.text.proofs.PutLaws.{holds_whole}
use Rattle.text.proofs.Lengths.{refusal_short}
use Rattle.valley.specs.Lines.{row_lines, lines}
use Rattle.valley.specs.Report.{huts, Reported}
use Rattle.valley.proofs.LineLaws.{lines_paired, lines_none, lines_refused}
use Rattle.valley.proofs.Lengths.{short_rows, short_total_line}

-- Two reports of a file are equal: the count, and every byte of the buffer. Of the solver only its promise is known here: see `Closed`.
pub only_report : OnlyAnswer → {file out : List ℕ} {r r' : ℕ} {after after' : List ℕ}
    → Reported file out r after → Reported file out r' after' → (r ≡ r') × (after ≡ after')
only_report only_answer {file} {out} x y =
    let same = only_pairs only_answer file fresh x.promise y.promise in
    let text : lines (huts file) x.pairs x.filled.rest.columns ≡ lines (huts file) y.pairs y.filled.rest.columns =
    ap (λ p. lines (huts file) p x.filled.rest.columns) same.0 ∙ ap (λ (f : Loan). lines (huts file) y.pairs f.rest.columns) same.1 in
    let whole = x.printed ∙ ap (put out 0) text ∙ sym y.printed in
    (ap (λ p. p.0) whole, ap (λ p. p.1) whole)

-- ---- the first 4,096 bytes

-- what the program reads of its input is enough
pub first_report : (file : List ℕ) {out : List ℕ} {r : ℕ} {after : List ℕ} → Reported (take 4096 file) out r after → Reported file out r after
first_report file {out} {r} {after} x = record {
  pairs = x.pairs;
  filled = x.filled;
  promise = first_pairs file x.promise;
  printed = rw (cut_said 4096 (omega arith) file hut_of (replicate 64 0)) at x.printed;
}

-- ---- the length

module _ (file : List ℕ) (bytes : AreBytes file) {p : Pairs} {filled : Loan} where
  solved_fits : (s : Scan) → judged file ≡ accepted s → Solved file s fresh p filled → length (lines (huts file) p filled.rest.columns) ≤ 594
  unfolding front
  solved_fits s e x =
      let f = accepted_filled file e in
      let size : p.n ≡ s.n = ap (λ (q : Pairs). q.n) x.solved.given in
      cases x.about.settled
      (λ zero_number.
      let pairing = x.about.pairing zero_number in
      let below : (i : ℕ) → i < s.n → get_or filled.rest.columns i 0 < 64 =
      λ i h. rw (← (get_or-take s.n filled.rest.columns i 0 h)) (omega (arith, pairing.pairing.below i h, f.small)) in
      rw (
        lines_paired (huts file) p filled.rest.columns zero_number,
        size,
        x.about.totalled zero_number,
        length-append (row_lines (huts file) filled.rest.columns s.n) _,
      )
      (omega (arith, f.small, short_rows file filled.rest.columns bytes e f.small s.n (omega arith) below, short_total_line file s _ f.small f.low pairing)))
      (λ six. rw (lines_none (huts file) p filled.rest.columns six) (omega arith))

  pub text_fits : PairPromise file fresh p filled → length (lines (huts file) p filled.rest.columns) ≤ 594
  text_fits x = go (judged file) refl
    where
      go : (j : Judged) → judged file ≡ j → length (lines (huts file) p filled.rest.columns) ≤ 594
      go (more s) e = absurd (never_more file e)
      go (accepted s) e = solved_fits s e (x.solved fresh_room s e)
      go (refused number place) e =
          let given = (x.unread fresh_room number place e).0 in
          let n : p.number ≡ number = ap (λ (q : Pairs). q.number) given in
          let at : p.place ≡ place = ap (λ (q : Pairs). q.place) given in
          let r = refused_early file e in
          rw (lines_refused (huts file) p filled.rest.columns (λ z. omega arith) (λ z. omega arith), n, at)
          (omega (arith, refusal_short number place r.1 r.2))

-- what is written is the whole text
pub whole_text : (file : List ℕ) → AreBytes file → {out : List ℕ} {r : ℕ} {after : List ℕ} (x : Reported file out r after) → 1024 ≤ length out
    → take r after ≡ lines (huts file) x.pairs x.filled.rest.columns
whole_text file bytes x h = holds_whole (record { held = x.printed }) (omega (arith, text_fits file bytes x.promise))
