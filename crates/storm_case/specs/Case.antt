-- What the reader gives back. What an accepted file says of each row and column stands in crate judgement, what of each pair in crate cells; both are passed on here.
use Rattle.std.specs.Prelude.{Bool, cond, ◌&&◌, List, ◌++◌, ℕ, ◌*◌, eqb, ltb, ℤ, length, drop, Result, Ok, Err, Option, Some, None}
use Rattle.lines.specs.Square.{square}
use Rattle.storm_case.specs.declared.Case.{Case}
use Rattle.storm_case.specs.declared.Size.{Size}
use Rattle.judgement.specs.declared.refusal.Refusal.{Refusal}
use Rattle.judgement.specs.Refused.{number_of}
use Rattle.judgement.specs.Scan.{Judged, more, refused, accepted, judged}
unfoldable pub use Rattle.judgement.specs.Says.{hut_of, row_area, row_clock, column_area, column_clock}
unfoldable pub use Rattle.cells.specs.Cells.{clock_error, may_pair, pair_cost, mask_byte}

-- the first n * n cells written, the rest as it was
unfoldable pub filled : {A : Type 0} → ℕ → (ℕ → ℕ → A) → List A → List A
filled n f xs = square f n ++ drop (n * n) xs

abbrev pub case : ℕ → ℕ → ℕ → ℕ → Case
case number place n window = record { number = number; place = place; n = n; window = window }

-- the reader's answer as one record
abbrev pub case_from : Result Size Refusal → Case
case_from (Ok s) = case 0 0 s.n s.window
case_from (Err e) = case (number_of e.rule) e.place 0 0

unfoldable pub case_of : List ℕ → List ℤ → List ℕ → Judged → Case × List ℤ × List ℕ
case_of file costs mask (accepted s) = (case 0 0 s.n s.window, filled s.n (pair_cost file s) costs, filled s.n (mask_byte file s) mask)
case_of file costs mask (refused number place) = (case number place 0 0, costs, mask)
-- a judged file is never here
case_of file costs mask (more s) = (case 21 s.at 0 0, costs, mask)

-- exactly 4,096 costs and 4,096 mask bytes
unfoldable pub has_cells : ℕ → ℕ → Bool
has_cells costs mask = eqb costs 4096 && eqb mask 4096

-- the reader: any other room is refused before the file is read
unfoldable pub read : List ℕ → List ℤ → List ℕ → Case × List ℤ × List ℕ
read file costs mask =
    cond (has_cells (length costs) (length mask)) (case_of file costs mask (judged file)) (case 20 0 0 0, costs, mask)

-- row i's hut: none where the row is not below n, or the file is refused
unfoldable pub hut_in : List ℕ → ℕ → Judged → Option ℕ
hut_in file i (accepted s) = cond (ltb i s.n) (Some (hut_of file s i)) None
hut_in file i (refused number place) = None
hut_in file i (more s) = None

unfoldable pub hut : List ℕ → ℕ → Option ℕ
hut file i = hut_in file i (judged file)
