-- Why there is no pairing, in words: the fragments of the block, the events that are left for them, and the events of the block.
use Rattle.std.specs.Prelude.{Bool, true, false, cond, not, List, [], ◌++◌, ℕ, ◌-◌, eqb, get_or}
use Rattle.lines.specs.Count.{count}
use Rattle.lines.specs.Sets.{has}
use Rattle.text.specs.Ascii.{ascii}
use Rattle.text.specs.Numbers.{decimal}
use Rattle.entries.specs.Lines.{each_line, counted, size, hut_line}

-- the title, and how large the case is
unfoldable pub head : ℕ → ℕ → List ℕ
head n window = ascii "NO PAIRING\n" ++ size n window ++ ascii "\n\n"

-- one as `This fragment`, more as `These 2 fragments`
unfoldable pub these : ℕ → List ℕ → List ℕ → List ℕ
these number one more = cond (eqb number 1) (one ++ ascii "fragment") (more ++ counted number (ascii "fragment"))

-- a row of the set
unfoldable pub block_row : ℕ → ℕ → ℕ → List ℕ
block_row rows row hut = cond (has rows row) (hut_line row hut) []

unfoldable pub block_rows : ℕ → ℕ → List ℕ → List ℕ
block_rows n rows huts = ascii "  row    hut\n" ++ each_line (λ row. block_row rows row (get_or huts row 0)) n

-- is an event among those that the set has, or among those that it has not
unfoldable pub named : ℕ → Bool → ℕ → Bool
named events inside event = cond inside (has events event) (not (has events event))

unfoldable pub event_word : Bool → ℕ → List ℕ
event_word shown event = cond shown (ascii " " ++ decimal event) []

unfoldable pub event_words : ℕ → ℕ → Bool → List ℕ
event_words n events inside = each_line (λ event. event_word (named events inside event) event) n ++ ascii "\n"

-- one is merely named, and more are counted first
unfoldable pub event_count : ℕ → List ℕ → List ℕ → List ℕ
event_count number one more = cond (eqb number 1) (one ++ ascii "event") (more ++ counted number (ascii "event") ++ ascii ":")

-- as `event 0`, or `these 2 events: 0 3`, after words for the one and for the other
unfoldable pub event_names : ℕ → List ℕ → List ℕ → ℕ → ℕ → Bool → List ℕ
event_names number one more n events inside = event_count number one more ++ event_words n events inside

-- the fragments of the block
unfoldable pub fragments : ℕ → ℕ → ℕ → List ℕ → List ℕ
fragments number n rows huts = these number (ascii "This ") (ascii "These ") ++ ascii ":\n" ++ block_rows n rows huts

-- the events outside the block
unfoldable pub left_words : ℕ → ℕ → ℕ → List ℕ
left_words n events left =
    cond (eqb left 0) (ascii "may be paired with no event,\n")
    (event_names left (ascii "may be paired only with ") (ascii "may be paired only with these ") n events false)

-- that no pair of the block is allowed
unfoldable pub since : ℕ → ℕ → ℕ → ℕ → ℕ → List ℕ
since row_count event_count n window events =
    these row_count (ascii "since this ") (ascii "since each of these ")
    ++ event_names event_count (ascii " and ") (ascii " and each of these ") n events true
    ++ ascii "differ in area or lie more than " ++ decimal window ++ ascii " ms apart.\n"

unfoldable pub end_words : ℕ → ℕ → List ℕ
end_words rows left =
    cond (eqb left 0) (ascii "So no pairing exists.\n")
    (counted rows (ascii "fragment") ++ ascii " cannot share " ++ counted left (ascii "event") ++ ascii ", so no pairing exists.\n")

unfoldable pub block : ℕ → ℕ → ℕ → ℕ → List ℕ → List ℕ
block n window rows events huts =
    let row_count = count (has rows) n in
    let left = n - count (has events) n in
    fragments row_count n rows huts ++ left_words n events left ++ since row_count (count (has events) n) n window events ++ end_words row_count left
