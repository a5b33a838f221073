-- The pairing of a price list as one text, section after section.
use Rattle.std.specs.Prelude.{List, ◌++◌, ℕ, ℤ, pos, get_or}
use Rattle.text.specs.Ascii.{ascii}
use Rattle.text.specs.Numbers.{signed}
use Rattle.lines.specs.Square.{cell}
use Rattle.entries.specs.Lines.{each_line, size, pair_line, sums_line, price_line, price_sum_line}

-- ---- the lines of the huts and what `pair_case` wrote

-- a row of the pairing
unfoldable pub pair_of : List ℕ → ℕ → List ℤ → List ℕ → List ℤ → List ℤ → ℕ → List ℕ
pair_of huts n costs columns row_prices column_prices row =
    let event = get_or columns row 0 in
    pair_line row (get_or huts row 0) event (cell (pos 0) n costs row event) (get_or row_prices row (pos 0)) (get_or column_prices event (pos 0))

-- ---- the sections

-- the title, how large the case is, and how to read a price below 0
unfoldable pub head : ℕ → ℕ → List ℕ
head n window =
    ascii "PRICE LIST\n" ++ size n window ++ ascii "; differences and prices in ms.\n" ++ ascii "A price may be negative; only sums of prices count.\n\n"

unfoldable pub pair_lines : List ℕ → ℕ → List ℤ → List ℕ → List ℤ → List ℤ → List ℕ
pair_lines huts n costs columns row_prices column_prices =
    ascii "  row    hut  event   difference =     row price +   event price\n"
    ++ each_line (pair_of huts n costs columns row_prices column_prices) n

unfoldable pub event_price_lines : ℕ → List ℤ → ℤ → List ℕ
event_price_lines n column_prices sum =
    ascii "\nevent     event price\n" ++ each_line (λ event. price_line event (get_or column_prices event (pos 0))) n ++ price_sum_line sum

unfoldable pub total_line : ℤ → List ℕ
total_line total = ascii "\nTOTAL " ++ signed total ++ ascii "\n"

-- the pairing, with the sums of the prices
unfoldable pub pairing_lines : List ℕ → ℕ → ℤ → ℤ → ℤ → List ℤ → List ℕ → List ℤ → List ℤ → List ℕ
pairing_lines huts n total rows events costs columns row_prices column_prices =
    pair_lines huts n costs columns row_prices column_prices ++ sums_line total rows events ++ event_price_lines n column_prices events ++ total_line total
