-- The lines of the price list and of the block. Numbers stand at the right end of their column, and signs between the columns keep long ones apart.
use Rattle.std.specs.Prelude.{cond, List, [], ◌∷◌, ◌++◌, ℕ, zero, suc, eqb, ℤ}
use Rattle.text.specs.Ascii.{ascii}
use Rattle.text.specs.Numbers.{decimal, signed, blanks, right}

abbrev pub is : List ℕ
is = 32 ∷ 61 ∷ 32 ∷ []

abbrev pub plus : List ℕ
plus = 32 ∷ 43 ∷ 32 ∷ []

-- `DIFFERENCE = ROW PRICE + EVENT PRICE`
unfoldable pub prices : ℤ → ℤ → ℤ → List ℕ
prices difference row_price event_price = right 13 (signed difference) ++ is ++ right 13 (signed row_price) ++ plus ++ right 13 (signed event_price)

-- a pair of the pairing: row, hut, event, and the prices
unfoldable pub pair_line : ℕ → ℕ → ℕ → ℤ → ℤ → ℤ → List ℕ
pair_line row hut event difference row_price event_price =
    right 5 (decimal row) ++ right 7 (decimal hut) ++ right 7 (decimal event) ++ prices difference row_price event_price ++ (10 ∷ [])

-- below the pairs, their sums
unfoldable pub sums_line : ℤ → ℤ → ℤ → List ℕ
sums_line total row_prices event_prices = (32 ∷ 32 ∷ 115 ∷ 117 ∷ 109 ∷ []) ++ blanks 14 ++ prices total row_prices event_prices ++ (10 ∷ [])

-- an event and its price
unfoldable pub price_line : ℕ → ℤ → List ℕ
price_line event price = right 5 (decimal event) ++ right 16 (signed price) ++ (10 ∷ [])

-- below the events, the sum of their prices
unfoldable pub price_sum_line : ℤ → List ℕ
price_sum_line sum = (32 ∷ 32 ∷ 115 ∷ 117 ∷ 109 ∷ []) ++ right 16 (signed sum) ++ (10 ∷ [])

-- an allowed pair: row, event, the prices and the spare
unfoldable pub allowed_line : ℕ → ℕ → ℤ → ℤ → ℤ → ℤ → List ℕ
allowed_line row event difference row_price event_price spare =
    right 5 (decimal row) ++ right 7 (decimal event) ++ prices difference row_price event_price ++ plus ++ right 13 (signed spare) ++ (10 ∷ [])

-- a row and its hut
unfoldable pub hut_line : ℕ → ℕ → List ℕ
hut_line row hut = right 5 (decimal row) ++ right 7 (decimal hut) ++ (10 ∷ [])

-- ---- words

unfoldable pub plural : ℕ → List ℕ
plural count = cond (eqb count 1) [] (ascii "s")

-- as `1 event` and `2 events`
unfoldable pub counted : ℕ → List ℕ → List ℕ
counted count thing = decimal count ++ ascii " " ++ thing ++ plural count

-- as `3 fragments, 3 events`
unfoldable pub counts : ℕ → List ℕ
counts n = counted n (ascii "fragment") ++ ascii ", " ++ counted n (ascii "event")

-- how large a case is, and its window
unfoldable pub size : ℕ → ℕ → List ℕ
size n window = counts n ++ ascii ", clocks at most " ++ decimal window ++ ascii " ms apart"

-- ---- line after line

-- the lines of 0, .., n - 1
unfoldable pub each_line : (ℕ → List ℕ) → ℕ → List ℕ
each_line line zero = []
each_line line (suc n) = each_line line n ++ line n
