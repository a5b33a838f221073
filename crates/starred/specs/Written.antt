-- The working values that the prices leave, and the marks that the lines show.
use Rattle.std.specs.Prelude.{cond, List, ℕ, ◌+◌, ◌*◌, ltb, eqb, ℤ, pos, ◌-ℤ◌, get_or, set}
use Rattle.lines.specs.Square.{square}
use Rattle.steps.specs.Lent.{allows, cost_at}
use Rattle.steps.specs.Steps as S

-- the working values that the prices leave, and the marks that the lines show
unfoldable pub working_of : ℕ → List ℤ → List ℕ → List ℤ → List ℤ → List ℤ
working_of n costs mask row_prices column_prices =
    square (λ i j. cond (allows n mask i j) (cost_at n costs i j -ℤ get_or row_prices i (pos 0) -ℤ get_or column_prices j (pos 0)) (pos 0)) n

unfoldable pub marks_of : ℕ → List ℕ → List ℕ → List ℕ
marks_of n star prime = square (λ i j. cond (eqb (get_or star i 0) j) 1 (cond (eqb (get_or prime i 0) j) 2 0)) n

-- marks with one more in a row, where its column is one
unfoldable pub with_mark : ℕ → ℕ → ℕ → ℕ → List ℕ → List ℕ
with_mark n row column mark marks = cond (ltb column n) (set marks (row * n + column) mark) marks

-- the marks that step 2 leaves
abbrev pub first_marks : ℕ → List ℤ → List ℕ → List ℕ
first_marks n costs mask = S.step2 n (allows n mask) (square (S.excess n (allows n mask) (cost_at n costs)) n) (square (λ i j. 0) n) n
