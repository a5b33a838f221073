-- How long the text is: at most 303,461 bytes.
use mathlib.Core.Path.{◌≡◌}
use mathlib.Core.Bool.{Bool}
use mathlib.Core.List.{List, []}
use Prim.Native.Nat.{ℕ, ◌*◌, ◌/◌, ◌%◌, ◌≤◌, ◌<◌}
use native.Mathlib.Omega.{arith}
use native.Mathlib.Nat.{mul-le-mul_right}
use borrow.Author.Tests.{eqb-true}
use lib.Dec.{eqb}
use lib.IntN.{ℤ}
use lib.ListN.{length, get_or, length-append}
use Rattle.lines.specs.Square.{cell}
use Rattle.lines.proofs.Bounds.{cells_fit}
use Rattle.lines.proofs.Tests.{T_true, cond_ind}
use Rattle.lines.proofs.Squares.{place_in, place_back}
use Rattle.text.specs.Ascii.{ascii}
use Rattle.entries.proofs.Narrow.{Narrow, Sums}
use Rattle.entries.proofs.Lengths.{each_short, allowed_line_short}
use Rattle.spares.specs.Spares.{allowed_of, sum_words, reason, cell_line, every_pair, least_lines}

reason_short : {total rows events : ℤ} → Sums total rows events → length (reason total rows events) ≤ 282
unfolding reason sum_words ascii
reason_short s = simp length-append (omega (arith, s))

module _ {n : ℕ} {huts : List ℕ} {costs : List ℤ} {mask : List ℕ} {working : List ℤ} {columns : List ℕ} {row_prices column_prices : List ℤ}
    (narrow : Narrow n huts costs mask working columns row_prices column_prices) where
  cell_short : (place : ℕ) → place < n * n → length (cell_line n costs mask working row_prices column_prices place) ≤ 74
  unfolding cell_line allowed_of
  cell_short place h =
      let at = place_in n place h in
      let s = narrow.small in
      cond_ind (λ t. length t ≤ 74) (eqb (get_or mask place 0) 1) _ []
      (λ t.
      let one : cell 0 n mask (place / n) (place % n) ≡ 1 = rw (place_back n place) (eqb-true _ _ (T_true _ t)) in
      allowed_line_short (place / n) (place % n) _ _ _ _ (omega (arith, at)) (omega (arith, at)) (narrow.cells _ _ at.0 at.1 one)
      (narrow.rows _ at.0) (narrow.events _ at.1) (narrow.spares _ _ at.0 at.1 one))
      (λ t. omega arith)

  pub least_short : (short : Bool) {total rows events : ℤ} → Sums total rows events
      → length (least_lines short n total rows events costs mask working row_prices column_prices) ≤ 303_461
  unfolding least_lines every_pair ascii
  least_short short {total} {rows} {events} s =
      cond_ind (λ t. length t ≤ 303_461) short [] _ (λ t. omega arith)
      (λ t.
      let cells = each_short (cell_line n costs mask working row_prices column_prices) 74 (n * n) cell_short in
      let all = mul-le-mul_right 74 (cells_fit {n = n} narrow.small) in
      simp length-append (omega (arith, reason_short s, cells, all)))
