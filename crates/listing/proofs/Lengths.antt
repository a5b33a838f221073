-- How long the sections are: at most 155 bytes for the head and 5,772 for the pairing.
use mathlib.Core.List.{List}
use Prim.Native.Nat.{ℕ, ◌≤◌, ◌<◌}
use native.Mathlib.Omega.{arith}
use lib.IntN.{ℤ, pos}
use lib.ListN.{length, get_or, length-append}
use Rattle.text.specs.Ascii.{ascii}
use Rattle.entries.specs.Lines.{price_line}
use Rattle.entries.proofs.Narrow.{Narrow, Sums}
use Rattle.entries.proofs.Lengths.{each_short, size_short, pair_line_short, sums_line_short, price_line_short, price_sum_line_short}
use Rattle.listing.specs.List.{head, pair_of, pair_lines, event_price_lines, total_line, pairing_lines}

pub head_short : (n window : ℕ) → n ≤ 64 → window ≤ 1_000_000_000 → length (head n window) ≤ 155
unfolding head ascii
head_short n window h w = simp length-append (omega (arith, size_short n window h w))

module _ {n : ℕ} {huts : List ℕ} {costs : List ℤ} {mask : List ℕ} {working : List ℤ} {columns : List ℕ} {row_prices column_prices : List ℤ}
    (narrow : Narrow n huts costs mask working columns row_prices column_prices) where
  pair_short : (i : ℕ) → i < n → length (pair_of huts n costs columns row_prices column_prices i) ≤ 65
  unfolding pair_of
  pair_short i h =
      let b = narrow.below i h in
      let s = narrow.small in
      pair_line_short i _ _ _ _ _ (omega arith) (narrow.huts_small i h) (omega arith) (narrow.pairs i h) (narrow.rows i h) (narrow.events _ b)

  price_short : (j : ℕ) → j < n → length (price_line j (get_or column_prices j (pos 0))) ≤ 22
  price_short j h = let s = narrow.small in price_line_short j _ (omega arith) (narrow.events j h)

  pub pairing_short : {total rows events : ℤ} → Sums total rows events
      → length (pairing_lines huts n total rows events costs columns row_prices column_prices) ≤ 5772
  unfolding pairing_lines pair_lines event_price_lines total_line ascii
  pairing_short {total} {rows} {events} s =
      simp length-append (omega (
        arith,
        narrow.small,
        s,
        each_short (pair_of huts n costs columns row_prices column_prices) 65 n pair_short,
        each_short (λ j. price_line j (get_or column_prices j (pos 0))) 22 n price_short,
        sums_line_short total rows events s.total_short s.rows_short s.events_short,
        price_sum_line_short events s.events_short,
      ))
