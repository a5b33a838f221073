-- Theorem: the program's buffer holds the whole text, for every file of bytes. A list takes at most 313,550 bytes, and the block less.
use mathlib.Core.Path.{◌≡◌, refl, ap}
use mathlib.Core.Bool.{Bool}
use mathlib.Core.List.{List, []}
use Prim.Native.Nat.{ℕ, ◌≤◌}
use native.Mathlib.Omega.{arith}
use borrow.Author.Tests.{ne_eqb}
use lib.ListN.{length, take, length-append}
use Rattle.lines.proofs.Tests.{cases, cond_ind}
use Rattle.storm_case.specs.Numbers.{AreBytes}
use Rattle.storm_case.specs.Scan.{Scan, Judged, more, refused, accepted, judged}
use Rattle.pairing.specs.declared.Pairs.{Pairs}
use Rattle.pairing.specs.Pair.{Loan, fresh, Solved, PairPromise}
use Rattle.pairing.proofs.Fronts.{fresh_room}
use Rattle.storm_case.proofs.ScanLaws.{never_more, accepted_filled}
use Rattle.storm_case.proofs.Decides.{refused_early}
use Rattle.text.specs.Ascii.{ascii}
use Rattle.text.proofs.PutLaws.{holds_whole}
use Rattle.text.proofs.Lengths.{refusal_short}
use Rattle.case_words.proofs.Lengths.{hut_small, case_short, unfit_short}
use Rattle.listing.proofs.Lengths as listing
use Rattle.listing.proofs.Lengths.{pairing_short}
use Rattle.spares.proofs.Lengths.{least_short}
use Rattle.shortage.proofs.Lengths as shortage
use Rattle.shortage.proofs.Lengths.{block_short}
use Rattle.price_list.specs.Report.{huts, case_above, list_text, block_text, text_of, Reported}
use Rattle.price_list.proofs.PromiseLaws.{listed}
use Rattle.price_list.proofs.Theorems.{adds_up}
use Rattle.price_list.proofs.NearLaws.{narrow, sums}

module _ (file : List ℕ) (bytes : AreBytes file) (short : Bool) {p : Pairs} {l : Loan} (x : PairPromise file fresh p l) where
  module _ (s : Scan) (e : judged file ≡ accepted s) where
    y : Solved file s fresh p l
    y = x.solved fresh_room s e

    few : s.n ≤ 64
    few = (accepted_filled file e).small

    low : s.window ≤ 1_000_000_000
    low = (accepted_filled file e).low

    size : p.n ≡ s.n
    size = ap (λ (q : Pairs). q.n) y.solved.given

    window : p.window ≡ s.window
    window = ap (λ (q : Pairs). q.window) y.solved.given

    above_short : length (case_above short file s.n) ≤ 4162
    unfolding case_above ascii
    above_short =
        cond_ind (λ t. length t ≤ 4162) short [] _ (λ t. omega arith) (λ t. simp length-append (omega (arith, case_short file bytes e few)))

    list_short : p.number ≡ 0 → length (text_of short file p l) ≤ 313_550
    unfolding text_of list_text
    list_short paired =
        let up = rw size at (adds_up x fresh_room paired) in
        let columns = rw size at (listed x fresh_room paired).below in
        let fits = narrow y few paired up {huts = huts file} (hut_small file bytes e few) columns in
        let three = sums y few paired up in
        rw (paired, size, window)
        (simp length-append (omega (
          arith,
          listing.head_short s.n s.window few low,
          above_short,
          pairing_short fits three,
          least_short fits short three,
        )))

    none_short : p.number ≡ 6 → length (text_of short file p l) ≤ 313_550
    unfolding text_of block_text ascii
    none_short none =
        rw (none, size, window)
        (simp length-append (omega (
          arith,
          shortage.head_short s.n s.window few low,
          case_short file bytes e few,
          unfit_short s.n l.mask (huts file) few (hut_small file bytes e few),
          block_short s.n s.window p.block_rows p.block_columns (huts file) few low (hut_small file bytes e few),
        )))

  pub text_fits : length (text_of short file p l) ≤ 313_550
  unfolding text_of
  text_fits = go (judged file) refl
    where
      go : (j : Judged) → judged file ≡ j → length (text_of short file p l) ≤ 313_550
      go (more s) e = absurd (never_more file e)
      go (accepted s) e = cases (x.solved fresh_room s e).about.settled (list_short s e) (none_short s e)
      go (refused number place) e =
          let given = (x.unread fresh_room number place e).0 in
          let n : p.number ≡ number = ap (λ (q : Pairs). q.number) given in
          let at : p.place ≡ place = ap (λ (q : Pairs). q.place) given in
          let r = refused_early file e in
          rw (n, at, ne_eqb number 0 (λ z. omega arith), ne_eqb number 6 (λ z. omega arith)) (omega (arith, refusal_short number place r.1 r.2))

-- what is written is the whole text
pub whole_text : (file : List ℕ) → AreBytes file → {short : Bool} {out : List ℕ} {r : ℕ} {after : List ℕ} (x : Reported short file out r after)
    → 524_288 ≤ length out → take r after ≡ text_of short file x.pairs x.filled
whole_text file bytes {short} x h = holds_whole (record { held = x.printed }) (omega (arith, text_fits file bytes short x.promise))
