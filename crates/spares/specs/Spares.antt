-- Why no pairing costs less, as one text: the reason, and every allowed pair with its spare.
use Rattle.std.specs.Prelude.{Bool, cond, List, [], ◌++◌, ℕ, ◌*◌, ◌/◌, ◌%◌, eqb, ℤ, pos, get_or}
use Rattle.text.specs.Ascii.{ascii}
use Rattle.text.specs.Numbers.{signed}
use Rattle.lines.specs.Square.{cell}
use Rattle.entries.specs.Lines.{each_line, allowed_line}

unfoldable pub sum_words : ℤ → ℤ → ℤ → List ℕ
sum_words total rows events = signed rows ++ ascii " + " ++ signed events ++ ascii " = " ++ signed total

unfoldable pub reason : ℤ → ℤ → ℤ → List ℕ
reason total rows events =
    ascii "\nWhy no pairing costs less: the list below has every allowed pair, and no spare is negative.\n"
    ++ ascii "A pairing takes every row once and every event once, so it costs at least all prices together,\n"
    ++ sum_words total rows events ++ ascii ". The pairing above costs exactly that.\n\n"

-- a row and an event that may be paired
unfoldable pub allowed_of : ℕ → List ℤ → List ℤ → List ℤ → List ℤ → ℕ → ℕ → List ℕ
allowed_of n costs working row_prices column_prices row event =
    allowed_line row event (cell (pos 0) n costs row event) (get_or row_prices row (pos 0)) (get_or column_prices event (pos 0))
    (cell (pos 0) n working row event)

-- a cell's line, where its pair is allowed
unfoldable pub cell_line : ℕ → List ℤ → List ℕ → List ℤ → List ℤ → List ℤ → ℕ → List ℕ
cell_line n costs mask working row_prices column_prices place =
    cond (eqb (get_or mask place 0) 1) (allowed_of n costs working row_prices column_prices (place / n) (place % n)) []

-- every allowed pair, row by row
unfoldable pub every_pair : ℕ → List ℤ → List ℕ → List ℤ → List ℤ → List ℤ → List ℕ
every_pair n costs mask working row_prices column_prices =
    ascii "  row  event   difference =     row price +   event price +         spare\n"
    ++ each_line (cell_line n costs mask working row_prices column_prices) (n * n)

-- that no pairing costs less, and every allowed pair; a short list has neither
unfoldable pub least_lines : Bool → ℕ → ℤ → ℤ → ℤ → List ℤ → List ℕ → List ℤ → List ℤ → List ℤ → List ℕ
least_lines short n total rows events costs mask working row_prices column_prices =
    cond short [] (reason total rows events ++ every_pair n costs mask working row_prices column_prices)
