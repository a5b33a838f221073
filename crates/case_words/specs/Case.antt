-- The case in words: a line for each row with its hut, area and clock, and a line for each event with its area and clock, which stand below those of the rows.
use Rattle.std.specs.Prelude.{List, ◌++◌, ℕ, get_or, replicate}
use Rattle.storm_case.specs.Scan.{Scan}
use Rattle.storm_case.specs.Case.{hut_of, row_area, row_clock, column_area, column_clock}
use Rattle.storm_case.specs.Said.{said}
use Rattle.text.specs.Ascii.{ascii}
use Rattle.text.specs.Numbers.{decimal, right}
use Rattle.entries.specs.Lines.{each_line}

unfoldable pub row_line : ℕ → ℕ → ℕ → ℕ → List ℕ
row_line row hut area clock = right 5 (decimal row) ++ right 7 (decimal hut) ++ right 7 (decimal area) ++ right 12 (decimal clock) ++ ascii "\n"

unfoldable pub event_line : ℕ → ℕ → ℕ → List ℕ
event_line event area clock = right 5 (decimal event) ++ right 14 (decimal area) ++ right 12 (decimal clock) ++ ascii "\n"

unfoldable pub row_lines : ℕ → List ℕ → List ℕ → List ℕ → List ℕ
row_lines n huts areas clocks =
    ascii "  row    hut   area       clock\n" ++ each_line (λ row. row_line row (get_or huts row 0) (get_or areas row 0) (get_or clocks row 0)) n

unfoldable pub event_lines : ℕ → List ℕ → List ℕ → List ℕ
event_lines n areas clocks =
    ascii "\nevent          area       clock\n" ++ each_line (λ event. event_line event (get_or areas event 0) (get_or clocks event 0)) n

-- what the file says of each line, where there is room for 64
abbrev pub told : (List ℕ → Scan → ℕ → ℕ) → List ℕ → List ℕ
told f file = said f file (replicate 64 0)

unfoldable pub case_lines : List ℕ → ℕ → List ℕ
case_lines file n = row_lines n (told hut_of file) (told row_area file) (told row_clock file) ++ event_lines n (told column_area file) (told column_clock file)
