-- What the program prints of a file: the list, the block or the refusal of an answer that meets the promise of `pair_case`.
use Rattle.std.specs.Prelude.{Bool, cond, ◌≡◌, List, [], ◌++◌, ℕ, eqb, ℤ, pos, get_or}
use Rattle.lines.specs.Sum.{sumℤ}
use Rattle.pairing.specs.declared.Pairs.{Pairs}
use Rattle.storm_case.specs.Case.{hut_of}
use Rattle.pairing.specs.Pair.{Loan, fresh, PairPromise}
use Rattle.text.specs.Ascii.{ascii}
use Rattle.text.specs.Text.{put}
use Rattle.text.specs.Numbers.{refusal}
use Rattle.case_words.specs.Case.{told, case_lines}
use Rattle.case_words.specs.Unfit.{unfit}
use Rattle.listing.specs.List as listing
use Rattle.listing.specs.List.{pairing_lines}
use Rattle.spares.specs.Spares.{least_lines}
use Rattle.shortage.specs.Block as shortage
use Rattle.shortage.specs.Block.{block}

-- the case above a list; a short list has it not
unfoldable pub case_above : Bool → List ℕ → ℕ → List ℕ
case_above short file n = cond short [] (case_lines file n ++ ascii "\n")

-- the list, with the sums of the prices
unfoldable pub list_text : Bool → List ℕ → List ℕ → ℕ → ℕ → ℤ → ℤ → ℤ → List ℤ → List ℕ → List ℤ → List ℕ → List ℤ → List ℤ → List ℕ
list_text short file huts n window total rows events costs mask working columns row_prices column_prices =
    listing.head n window ++ case_above short file n ++ pairing_lines huts n total rows events costs columns row_prices column_prices
    ++ least_lines short n total rows events costs mask working row_prices column_prices

-- the case, what fits none, and the block
unfoldable pub block_text : List ℕ → List ℕ → ℕ → ℕ → ℕ → ℕ → List ℕ → List ℕ
block_text file huts n window rows events mask =
    shortage.head n window ++ case_lines file n ++ ascii "\n" ++ unfit n mask huts ++ block n window rows events huts

abbrev pub huts : List ℕ → List ℕ
huts file = told hut_of file

-- at 0 the list, full or short; at 6 the block; at every other number the refusal
unfoldable pub text_of : Bool → List ℕ → Pairs → Loan → List ℕ
text_of short file p l =
    let rows = sumℤ (λ i. get_or l.rest.row_prices i (pos 0)) p.n in
    let events = sumℤ (λ j. get_or l.rest.column_prices j (pos 0)) p.n in
    cond (eqb p.number 0)
    (list_text short file (huts file) p.n p.window p.total rows events
    l.costs l.mask l.rest.working l.rest.columns l.rest.row_prices l.rest.column_prices)
    (cond (eqb p.number 6) (block_text file (huts file) p.n p.window p.block_rows p.block_columns l.mask) (refusal p.number p.place))

pub record Reported (short : Bool) (file out : List ℕ) (r : ℕ) (after : List ℕ) : Type 0 where
  pub pairs : Pairs
  pub filled : Loan
  pub promise : PairPromise file fresh pairs filled
  pub printed : (r, after) ≡ put out 0 (text_of short file pairs filled)
