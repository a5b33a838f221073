-- Theorems of what is printed: there is one text for a file, the first 4,096 bytes decide it, and the list has a line for each allowed pair and for no other.
use mathlib.Core.Path.{◌≡◌, sym, ap, ◌∙◌}
use mathlib.Core.Logic.{◌≢◌}
use mathlib.Core.Bool.{Bool}
use mathlib.Core.List.{List, []}
use Prim.Native.Nat.{ℕ, ◌+◌, ◌*◌, ◌<◌}
use native.Mathlib.Omega.{arith}
use borrow.Author.Tests.{eq-eqb, ne_eqb}
use lib.IntN.{ℤ}
use lib.ListN.{take, replicate}
use Rattle.lines.specs.Square.{cell}
use Rattle.lines.proofs.Squares.{place_of}
use Rattle.pairing.specs.declared.Pairs.{Pairs}
use Rattle.storm_case.specs.Scan.{Scan}
use Rattle.storm_case.specs.Case.{hut_of, row_area, row_clock, column_area, column_clock}
use Rattle.pairing.specs.Pair.{Loan, fresh}
use Rattle.storm_case.proofs.Decides.{cut_said}
use Rattle.pairing.proofs.OnlyPairs.{OnlyAnswer, only_pairs, first_pairs}
use Rattle.text.specs.Text.{put}
use Rattle.spares.specs.Spares.{allowed_of, cell_line}
use Rattle.case_words.specs.Case.{told, case_lines}
use Rattle.price_list.specs.Report.{case_above, list_text, block_text, text_of, Reported}

-- Two reports of a file are equal: the count, and every byte of the buffer. Of the solver only its promise is known here: see `Closed`.
pub only_report : OnlyAnswer → {short : Bool} {file out : List ℕ} {r r' : ℕ} {after after' : List ℕ}
    → Reported short file out r after → Reported short file out r' after' → (r ≡ r') × (after ≡ after')
only_report only_answer {short} {file} {out} x y =
    let same = only_pairs only_answer file fresh x.promise y.promise in
    let text : text_of short file x.pairs x.filled ≡ text_of short file y.pairs y.filled =
    ap (λ p. text_of short file p x.filled) same.0 ∙ ap (text_of short file y.pairs) same.1 in
    let whole = x.printed ∙ ap (put out 0) text ∙ sym y.printed in
    (ap (λ p. p.0) whole, ap (λ p. p.1) whole)

module _ (file : List ℕ) where
  cut : (f : List ℕ → Scan → ℕ → ℕ) → told f (take 4096 file) ≡ told f file
  cut f = cut_said 4096 (omega arith) file f (replicate 64 0)

  cut_case : (n : ℕ) → case_lines (take 4096 file) n ≡ case_lines file n
  unfolding case_lines
  cut_case n = rw (cut hut_of, cut row_area, cut row_clock, cut column_area, cut column_clock)

  cut_text : (short : Bool) (p : Pairs) (l : Loan) → text_of short (take 4096 file) p l ≡ text_of short file p l
  unfolding text_of list_text case_above block_text
  cut_text short p l = rw (cut hut_of, cut_case p.n)

-- what the program reads of its input is enough
pub first_report : (short : Bool) (file : List ℕ) {out : List ℕ} {r : ℕ} {after : List ℕ} → Reported short (take 4096 file) out r after → Reported short file out r after
first_report short file x = record {
  pairs = x.pairs;
  filled = x.filled;
  promise = first_pairs file x.promise;
  printed = rw (cut_text file short x.pairs x.filled) at x.printed;
}

-- the list goes over every cell once: an allowed pair has its line there, and any other has none
module _ (n : ℕ) (costs : List ℤ) (mask : List ℕ) (working row_prices column_prices : List ℤ) (row event : ℕ) (below : event < n) where
  pub pair_shown : cell 0 n mask row event ≡ 1
      → cell_line n costs mask working row_prices column_prices (row * n + event) ≡ allowed_of n costs working row_prices column_prices row event
  unfolding cell_line
  pair_shown one = let at = place_of n row event below in rw (eq-eqb _ _ one, at.0, at.1)

  pub pair_hidden : cell 0 n mask row event ≢ 1 → cell_line n costs mask working row_prices column_prices (row * n + event) ≡ []
  unfolding cell_line
  pair_hidden other = rw (ne_eqb _ _ other)
