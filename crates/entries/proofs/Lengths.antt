-- How long the lines are: numbers of at most 13 signs keep to their columns, and the sums below them take at most 15.
use mathlib.Core.List.{List, []}
use Prim.Native.Nat.{ℕ, zero, suc, ◌+◌, ◌*◌, ◌≤◌, ◌<◌}
use native.Mathlib.Omega.{arith}
use native.Mathlib.Nat.{suc-mul}
use lib.Dec.{eqb}
use lib.IntN.{ℤ}
use lib.ListN.{length, length-append}
use Rattle.lines.proofs.Tests.{cond_ind}
use Rattle.text.specs.Ascii.{ascii}
use Rattle.text.specs.Numbers.{signed}
use Rattle.text.proofs.NumberLaws.{decimal_short, length_blanks}
use Rattle.text.proofs.Lengths.{right_short, decimal_right}
use Rattle.entries.specs.Lines.{prices, pair_line, sums_line, price_line, price_sum_line, allowed_line, hut_line}
use Rattle.entries.specs.Lines.{plural, counted, counts, size, each_line}

-- n lines of at most so much
pub each_short : (line : ℕ → List ℕ) (most n : ℕ) → ((i : ℕ) → i < n → length (line i) ≤ most) → length (each_line line n) ≤ n * most
unfolding each_line
each_short line most zero short = omega arith
each_short line most (suc n) short =
    rw (length-append (each_line line n) (line n)) (omega (arith, suc-mul n most, short n (omega arith), each_short line most n (λ i h. short i (omega arith))))

-- ---- numbers

pub prices_short : (most : ℕ) (difference row_price event_price : ℤ) → 13 ≤ most
    → length (signed difference) ≤ most → length (signed row_price) ≤ most → length (signed event_price) ≤ most
    → length (prices difference row_price event_price) ≤ 3 * most + 6
unfolding prices
prices_short most difference row_price event_price w d r e =
    simp length-append (omega (
      arith,
      right_short 13 most (signed difference) w d,
      right_short 13 most (signed row_price) w r,
      right_short 13 most (signed event_price) w e,
    ))

pub pair_line_short : (row hut event : ℕ) (difference row_price event_price : ℤ) → row < 64 → hut < 65536 → event < 64
    → length (signed difference) ≤ 13 → length (signed row_price) ≤ 13 → length (signed event_price) ≤ 13
    → length (pair_line row hut event difference row_price event_price) ≤ 65
unfolding pair_line
pair_line_short row hut event difference row_price event_price hr hh he d r e =
    simp length-append (omega (
      arith,
      decimal_right 5 1 row (omega arith) (omega arith),
      decimal_right 7 4 hut (omega arith) (omega arith),
      decimal_right 7 1 event (omega arith) (omega arith),
      prices_short 13 difference row_price event_price (omega arith) d r e,
    ))

pub allowed_line_short : (row event : ℕ) (difference row_price event_price spare : ℤ) → row < 64 → event < 64
    → length (signed difference) ≤ 13 → length (signed row_price) ≤ 13 → length (signed event_price) ≤ 13 → length (signed spare) ≤ 13
    → length (allowed_line row event difference row_price event_price spare) ≤ 74
unfolding allowed_line
allowed_line_short row event difference row_price event_price spare hr he d r e s =
    simp length-append (omega (
      arith,
      decimal_right 5 1 row (omega arith) (omega arith),
      decimal_right 7 1 event (omega arith) (omega arith),
      prices_short 13 difference row_price event_price (omega arith) d r e,
      right_short 13 13 (signed spare) (omega arith) s,
    ))

pub sums_line_short : (total row_prices event_prices : ℤ) → length (signed total) ≤ 15 → length (signed row_prices) ≤ 15 → length (signed event_prices) ≤ 15
    → length (sums_line total row_prices event_prices) ≤ 71
unfolding sums_line
sums_line_short total row_prices event_prices t r e =
    simp (length-append, length_blanks) (omega (arith, prices_short 15 total row_prices event_prices (omega arith) t r e))

pub price_line_short : (event : ℕ) (price : ℤ) → event < 64 → length (signed price) ≤ 13 → length (price_line event price) ≤ 22
unfolding price_line
price_line_short event price h p =
    simp length-append (omega (arith, decimal_right 5 1 event (omega arith) (omega arith), right_short 16 16 (signed price) (omega arith) (omega arith)))

pub price_sum_line_short : (sum : ℤ) → length (signed sum) ≤ 15 → length (price_sum_line sum) ≤ 22
unfolding price_sum_line
price_sum_line_short sum p = simp length-append (omega (arith, right_short 16 16 (signed sum) (omega arith) (omega arith)))

pub hut_line_short : (row hut : ℕ) → row < 64 → hut < 65536 → length (hut_line row hut) ≤ 13
unfolding hut_line
hut_line_short row hut r h =
    simp length-append (omega (arith, decimal_right 5 1 row (omega arith) (omega arith), decimal_right 7 4 hut (omega arith) (omega arith)))

-- ---- words

plural_short : (count : ℕ) → length (plural count) ≤ 1
unfolding plural ascii
plural_short count = cond_ind (λ t. length t ≤ 1) (eqb count 1) [] _ (λ t. omega arith) (λ t. omega arith)

pub counted_short : (count : ℕ) (thing : List ℕ) → count ≤ 64 → length (counted count thing) ≤ length thing + 4
unfolding counted ascii
counted_short count thing h = simp length-append (omega (arith, decimal_short 1 count (omega arith), plural_short count))

counts_short : (n : ℕ) → n ≤ 64 → length (counts n) ≤ 23
unfolding counts ascii
counts_short n h = simp length-append (omega (arith, counted_short n (ascii "fragment") h, counted_short n (ascii "event") h))

pub size_short : (n window : ℕ) → n ≤ 64 → window ≤ 1_000_000_000 → length (size n window) ≤ 59
unfolding size ascii
size_short n window h w = simp length-append (omega (arith, counts_short n h, decimal_short 9 window (omega arith)))
