-- What the program prints, as a definition of the huts, the answer and the chosen columns. Every line ends with a line feed.
use Rattle.std.specs.Prelude.{cond, List, [], ◌∷◌, ◌++◌, ℕ, zero, suc, eqb, ℤ, get_or}
use Rattle.pairing.specs.declared.Pairs.{Pairs}
use Rattle.text.specs.Numbers.{decimal, signed, refusal}

-- `HUT COLUMN`
unfoldable pub row_line : ℕ → ℕ → List ℕ
row_line hut column = decimal hut ++ (32 ∷ []) ++ decimal column ++ (10 ∷ [])

-- the lines of the first n rows
unfoldable pub row_lines : List ℕ → List ℕ → ℕ → List ℕ
row_lines huts columns zero = []
row_lines huts columns (suc row) = row_lines huts columns row ++ row_line (get_or huts row 0) (get_or columns row 0)

-- `TOTAL t`
unfoldable pub total_line : ℤ → List ℕ
total_line total = (84 ∷ 79 ∷ 84 ∷ 65 ∷ 76 ∷ 32 ∷ []) ++ signed total ++ (10 ∷ [])

-- `NO PAIRING`
abbrev pub no_pairing : List ℕ
no_pairing = 78 ∷ 79 ∷ 32 ∷ 80 ∷ 65 ∷ 73 ∷ 82 ∷ 73 ∷ 78 ∷ 71 ∷ 10 ∷ []

-- at 0 the rows and the total, at 6 the fixed line, at every other number the refusal
unfoldable pub lines : List ℕ → Pairs → List ℕ → List ℕ
lines huts p columns =
    cond (eqb p.number 0) (row_lines huts columns p.n ++ total_line p.total)
    (cond (eqb p.number 6) no_pairing (refusal p.number p.place))
