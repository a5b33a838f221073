-- The lines that are printed, as the code puts them together.
use mathlib.Core.Path.{◌≡◌, refl, sym, ap, ap₂}
use mathlib.Core.Logic.{◌≢◌}
use mathlib.Core.Bool.{cond}
use mathlib.Core.List.{List, ◌++◌}
use Prim.Native.Nat.{ℕ, zero, suc, ◌+◌, ◌<◌}
use native.Mathlib.Numerals.{add-one}
use native.Mathlib.Omega.{arith}
use borrow.Author.Tests.{ne_eqb}
use lib.Dec.{eqb}
use lib.ListN.{get_or, take}
use lib.Seq.{get_or-take}
use Rattle.pairing.specs.declared.Pairs.{Pairs}
use Rattle.text.specs.Numbers.{refusal}
use Rattle.valley.specs.Lines.{row_line, row_lines, total_line, no_pairing, lines}

-- one more row's line, at the code's `row + 1`
pub rows_more : (huts columns : List ℕ) (row h k : ℕ) → h ≡ get_or huts row 0 → k ≡ get_or columns row 0
    → row_lines huts columns (row + 1) ≡ row_lines huts columns row ++ row_line h k
unfolding row_lines
rows_more huts columns row h k e f = rw (add-one row, e, f)

-- rows with the same hut and the same column have the same lines
pub same_rows : (h h' c c' : List ℕ) (n : ℕ) → ((i : ℕ) → i < n → get_or h i 0 ≡ get_or h' i 0) → ((i : ℕ) → i < n → get_or c i 0 ≡ get_or c' i 0)
    → row_lines h c n ≡ row_lines h' c' n
unfolding row_lines
same_rows h h' c c' zero sh sc = refl
same_rows h h' c c' (suc n) sh sc =
    ap₂ (λ (a b : List ℕ). a ++ b) (same_rows h h' c c' n (λ i l. sh i (omega arith)) (λ i l. sc i (omega arith)))
    (ap₂ row_line (sh n (omega arith)) (sc n (omega arith)))

-- which lines, by the answer's number
module _ (huts : List ℕ) (p : Pairs) (columns : List ℕ) where
  pub lines_paired : p.number ≡ 0 → lines huts p columns ≡ row_lines huts columns p.n ++ total_line p.total
  unfolding lines
  lines_paired e = rw e

  pub lines_none : p.number ≡ 6 → lines huts p columns ≡ no_pairing
  unfolding lines
  lines_none e = rw e

  pub lines_refused : p.number ≢ 0 → p.number ≢ 6 → lines huts p columns ≡ refusal p.number p.place
  unfolding lines
  lines_refused d e = rw (ne_eqb _ _ d, ne_eqb _ _ e)

  -- only the first columns are printed
  pub lines_front : lines huts p columns ≡ lines huts p (take p.n columns)
  unfolding lines
  lines_front =
      ap (λ (rows : List ℕ). cond (eqb p.number 0) (rows ++ total_line p.total) (cond (eqb p.number 6) no_pairing (refusal p.number p.place)))
      (same_rows huts huts columns (take p.n columns) p.n (λ i l. refl) (λ i l. sym (get_or-take p.n columns i 0 l)))
