-- How long the words of a block are: at most 72 bytes for the head and 1,489 for the rest.
use mathlib.Core.Bool.{Bool, true, false}
use mathlib.Core.List.{List, [], ◌++◌}
use Prim.Native.Nat.{ℕ, ◌-◌, ◌≤◌, ◌<◌}
use native.Mathlib.Omega.{arith}
use lib.Dec.{eqb}
use lib.ListN.{length, get_or, length-append}
use Rattle.lines.specs.Count.{count}
use Rattle.lines.specs.Sets.{has}
use Rattle.lines.proofs.Tests.{cond_ind}
use Rattle.lines.proofs.Counts.{count_le}
use Rattle.text.specs.Ascii.{ascii}
use Rattle.text.proofs.NumberLaws.{decimal_short}
use Rattle.entries.specs.Lines.{counted}
use Rattle.entries.proofs.Lengths.{each_short, hut_line_short, counted_short, size_short}
use Rattle.shortage.specs.Block.{head, these, block_row, block_rows, named, event_word, event_words, event_count, event_names}
use Rattle.shortage.specs.Block.{fragments, left_words, since, end_words, block}

pub head_short : (n window : ℕ) → n ≤ 64 → window ≤ 1_000_000_000 → length (head n window) ≤ 72
unfolding head ascii
head_short n window h w = simp length-append (omega (arith, size_short n window h w))

these_short : (number : ℕ) (one more : List ℕ) → number ≤ 64 → length one ≤ 20 → length more ≤ 20 → length (these number one more) ≤ 32
unfolding these ascii
these_short number one more h o m =
    cond_ind (λ t. length t ≤ 32) (eqb number 1) (one ++ ascii "fragment") (more ++ counted number (ascii "fragment"))
    (λ t. simp length-append (omega arith))
    (λ t. simp length-append (omega (arith, counted_short number (ascii "fragment") h)))

-- ---- the events

word_short : (shown : Bool) (event : ℕ) → event < 64 → length (event_word shown event) ≤ 3
unfolding event_word ascii
word_short shown event h =
    cond_ind (λ t. length t ≤ 3) shown _ [] (λ t. simp length-append (omega (arith, decimal_short 1 event (omega arith)))) (λ t. omega arith)

words_short : (n events : ℕ) (inside : Bool) → n ≤ 64 → length (event_words n events inside) ≤ 193
unfolding event_words ascii
words_short n events inside h =
    simp length-append (omega (arith, each_short (λ event. event_word (named events inside event) event) 3 n (λ i l. word_short _ i (omega arith))))

count_short : (number : ℕ) (one more : List ℕ) → number ≤ 64 → length one ≤ 30 → length more ≤ 30 → length (event_count number one more) ≤ 40
unfolding event_count ascii
count_short number one more h o m =
    cond_ind (λ t. length t ≤ 40) (eqb number 1) (one ++ ascii "event") (more ++ counted number (ascii "event") ++ ascii ":")
    (λ t. simp length-append (omega arith))
    (λ t. simp length-append (omega (arith, counted_short number (ascii "event") h)))

names_short : (number : ℕ) (one more : List ℕ) (n events : ℕ) (inside : Bool) → number ≤ 64 → n ≤ 64 → length one ≤ 30 → length more ≤ 30
    → length (event_names number one more n events inside) ≤ 233
unfolding event_names
names_short number one more n events inside h small o m =
    simp length-append (omega (arith, count_short number one more h o m, words_short n events inside small))

-- ---- the parts

row_short : (rows row hut : ℕ) → row < 64 → hut < 65_536 → length (block_row rows row hut) ≤ 13
unfolding block_row
row_short rows row hut r h = cond_ind (λ t. length t ≤ 13) (has rows row) _ [] (λ t. hut_line_short row hut r h) (λ t. omega arith)

fragments_short : (number n rows : ℕ) (huts : List ℕ) → number ≤ 64 → n ≤ 64 → ((i : ℕ) → i < n → get_or huts i 0 < 65_536)
    → length (fragments number n rows huts) ≤ 879
unfolding fragments block_rows ascii
fragments_short number n rows huts h small hut =
    simp length-append (omega (
      arith,
      these_short number (ascii "This ") (ascii "These ") h (omega arith) (omega arith),
      each_short (λ row. block_row rows row (get_or huts row 0)) 13 n (λ i l. row_short rows i _ (omega arith) (hut i l)),
    ))

left_short : (n events left : ℕ) → n ≤ 64 → left ≤ 64 → length (left_words n events left) ≤ 233
unfolding left_words ascii
left_short n events left small h =
    cond_ind (λ t. length t ≤ 233) (eqb left 0) (ascii "may be paired with no event,\n")
    (event_names left (ascii "may be paired only with ") (ascii "may be paired only with these ") n events false) (λ t. omega arith)
    (λ t. names_short left (ascii "may be paired only with ") (ascii "may be paired only with these ") n events false h small (omega arith) (omega arith))

since_short : (row_count event_count n window events : ℕ) → row_count ≤ 64 → event_count ≤ 64 → n ≤ 64 → window ≤ 1_000_000_000
    → length (since row_count event_count n window events) ≤ 318
unfolding since ascii
since_short row_count event_count n window events r c small w =
    simp length-append (omega (
      arith,
      these_short row_count (ascii "since this ") (ascii "since each of these ") r (omega arith) (omega arith),
      names_short event_count (ascii " and ") (ascii " and each of these ") n events true c small (omega arith) (omega arith),
      decimal_short 9 window (omega arith),
    ))

end_short : (rows left : ℕ) → rows ≤ 64 → left ≤ 64 → length (end_words rows left) ≤ 59
unfolding end_words ascii
end_short rows left r l =
    cond_ind (λ t. length t ≤ 59) (eqb left 0) (ascii "So no pairing exists.\n")
    (counted rows (ascii "fragment") ++ ascii " cannot share " ++ counted left (ascii "event") ++ ascii ", so no pairing exists.\n") (λ t. omega arith)
    (λ t. simp length-append (omega (arith, counted_short rows (ascii "fragment") r, counted_short left (ascii "event") l)))

pub block_short : (n window rows events : ℕ) (huts : List ℕ) → n ≤ 64 → window ≤ 1_000_000_000 → ((i : ℕ) → i < n → get_or huts i 0 < 65_536)
    → length (block n window rows events huts) ≤ 1489
unfolding block
block_short n window rows events huts small w hut =
    let r = count_le (has rows) n in
    let c = count_le (has events) n in
    simp length-append (omega (
      arith,
      fragments_short (count (has rows) n) n rows huts (omega arith) small hut,
      left_short n events (n - count (has events) n) small (omega arith),
      since_short (count (has rows) n) (count (has events) n) n window events (omega arith) (omega arith) small w,
      end_short (count (has rows) n) (n - count (has events) n) (omega arith) (omega arith),
    ))
