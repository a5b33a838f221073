-- What is printed, by the answer's number.
use mathlib.Core.Path.{◌≡◌}
use mathlib.Core.Logic.{◌≢◌}
use mathlib.Core.Bool.{Bool}
use mathlib.Core.List.{List}
use Prim.Native.Nat.{ℕ}
use borrow.Author.Tests.{ne_eqb}
use lib.IntN.{ℤ}
use Rattle.pairing.specs.declared.Pairs.{Pairs}
use Rattle.pairing.specs.Pair.{Loan, fresh, PairPromise}
use Rattle.pairing.proofs.Fronts.{fresh_room}
use Rattle.text.specs.Text.{put}
use Rattle.text.specs.Numbers.{refusal}
use Rattle.listing.specs.Listed.{SumOf}
use Rattle.price_list.specs.Report.{huts, list_text, block_text, text_of, Reported}
use Rattle.price_list.proofs.Theorems.{adds_up}

module _ {short : Bool} {file : List ℕ} {p : Pairs} {l : Loan} (x : PairPromise file fresh p l) {hs : List ℕ} (asked : hs ≡ huts file)
    {out : List ℕ} {r : ℕ} {after : List ℕ} where
  reported : (text : List ℕ) → text_of short file p l ≡ text → (r, after) ≡ put out 0 text → Reported short file out r after
  reported text same e = record { pairs = p; filled = l; promise = x; printed = rw same e }

  -- at 0 the list, with what `sum` gives for the prices
  pub report_list : p.number ≡ 0 → {rows events : ℤ} → SumOf p.n l.rest.row_prices rows → SumOf p.n l.rest.column_prices events
      → (r, after) ≡ put out 0 (list_text short file hs p.n p.window p.total rows events
      l.costs l.mask l.rest.working l.rest.columns l.rest.row_prices l.rest.column_prices) → Reported short file out r after
  unfolding text_of
  report_list paired {rows} {events} rows_sum events_sum e =
      let up = adds_up x fresh_room paired in
      reported _ (rw (paired, asked, up.rows rows rows_sum, up.events events events_sum)) e

  pub report_block : p.number ≡ 6 → (r, after) ≡ put out 0 (block_text file hs p.n p.window p.block_rows p.block_columns l.mask) → Reported short file out r after
  unfolding text_of
  report_block none e = reported _ (rw (none, asked)) e

  pub report_refusal : p.number ≢ 0 → p.number ≢ 6 → (r, after) ≡ put out 0 (refusal p.number p.place) → Reported short file out r after
  unfolding text_of
  report_refusal d n e = reported _ (rw (ne_eqb _ _ d, ne_eqb _ _ n)) e
