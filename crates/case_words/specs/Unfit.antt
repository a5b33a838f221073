-- The rows and the events that may be paired with none, by the mask.
use Rattle.std.specs.Prelude.{Bool, cond, List, [], ◌++◌, ℕ, eqb, get_or}
use Rattle.lines.specs.First.{any}
use Rattle.lines.specs.Square.{cell}
use Rattle.text.specs.Ascii.{ascii}
use Rattle.text.specs.Numbers.{decimal}
use Rattle.entries.specs.Lines.{each_line}

unfoldable pub may_pair : ℕ → List ℕ → ℕ → ℕ → Bool
may_pair n mask row event = eqb (cell 0 n mask row event) 1

unfoldable pub row_fits : ℕ → List ℕ → ℕ → Bool
row_fits n mask row = any (λ event. may_pair n mask row event) n

unfoldable pub event_fits : ℕ → List ℕ → ℕ → Bool
event_fits n mask event = any (λ row. may_pair n mask row event) n

-- a line, unless it fits one
unfoldable pub unfit_row : Bool → ℕ → ℕ → List ℕ
unfit_row fits row hut = cond fits [] (ascii "row " ++ decimal row ++ ascii " (hut " ++ decimal hut ++ ascii ") fits no event\n")

unfoldable pub unfit_event : Bool → ℕ → List ℕ
unfit_event fits event = cond fits [] (ascii "event " ++ decimal event ++ ascii " fits no fragment\n")

unfoldable pub unfit_rows : ℕ → List ℕ → List ℕ → List ℕ
unfit_rows n mask huts = each_line (λ row. unfit_row (row_fits n mask row) row (get_or huts row 0)) n

unfoldable pub unfit_events : ℕ → List ℕ → List ℕ
unfit_events n mask = each_line (λ event. unfit_event (event_fits n mask event) event) n

unfoldable pub unfit : ℕ → List ℕ → List ℕ → List ℕ
unfit n mask huts = unfit_rows n mask huts ++ unfit_events n mask
