-- Document 01's sample table: the definitions of the steps are run on every sample, and give the whole answer and every buffer that the table says.
use Rattle.std.specs.Prelude.{◌≡◌, refl, cond, List, [], ◌∷◌, map, ℕ, ◌+◌, ◌*◌, ◌^◌, eqb, ℤ, pos, negsuc, neg_ℤ, ◌-ℤ◌, get_or, replicate}
use Rattle.std.proofs.Math.Option.{Option, none, some}
use Rattle.lines.specs.Sum.{sum, sumℤ}
use Rattle.lines.specs.Count.{bit, count}
use Rattle.lines.specs.First.{first_on, first, any, least_on, least}
use Rattle.lines.specs.Square.{cell, table, square, each_from, each}
use Rattle.lines.specs.Sets.{has, with, without, all, rest, those}
use Rattle.assignment.specs.Problem.{total}
use Rattle.steps.specs.declared.Answer.{Answer}
use Rattle.steps.specs.Lent.{Task, Buffers, allows, cost_at}
use Rattle.steps.specs.Rules.{by_rules}
use Rattle.steps.specs.Refusal.{out_of_range, has_room, bad_mask, bad_cost, dead_row, rules, by_rows, judgement, verdict}
use Rattle.steps.specs.Steps.{is_zero, star_in_row, star_in_column, prime_in_row, star_columns, star_count, row_price, excess, zero_at}
use Rattle.steps.specs.Steps.{free_zero, star_row, step2, start, step3, uncovered, covering, reaching, zero_in_column, zero_column, step4}
use Rattle.steps.specs.Steps.{clear_primes, augmenting, path, flip, step5, adjusting, follow, lowered, raised, lowest, followed, step6, step_at, step, steps}
use Rattle.steps.specs.Outcome.{given, written, returned, judged}

-- ---- how a matrix is written: + 250 ∷ - 5 │ X ∷ + 0 ∷ [] has the rows 250 -5 and X 0

infix 80 +◌ -◌
abbrev pub +◌ : ℕ → ℤ
+ m = pos m

abbrev pub -◌ : ℕ → ℤ
- m = neg_ℤ (pos m)

-- a forbidden cell, with a cost that is out of range
abbrev pub X : ℤ
X = + 2_000_000_000

infixr 67 ◌│◌
-- the end of a row
abbrev pub ◌│◌ : ℤ → List ℤ → List ℤ
z │ zs = z ∷ zs

-- the mask's byte
unfoldable pub byte : ℤ → ℕ
byte (pos m) = cond (eqb m 2_000_000_000) 0 1
byte (negsuc m) = 1

-- ---- what a row of the table says

-- adjustments, primes, augmentations
abbrev pub Counts : Type 0
Counts = ℕ × ℕ × ℕ

-- what the buffers other than the columns hold at 6 and 7
pub data Left : Type 0 where
  untouched : Left
  -- the star of each row and the prime of each row (n for none), row prices, column prices
  standing : List ℕ → List ℕ → List ℤ → List ℤ → Left

pub data Says : Type 0 where
  -- columns, total, counts, row prices, column prices
  paired : List ℕ → ℤ → Counts → List ℤ → List ℤ → Says
  -- the rows and the columns of the block, counts
  no_pairing : List ℕ → List ℕ → Counts → Left → Says
  unfinished : Counts → Left → Says
  -- number, place
  refused : ℕ → ℕ → Says

-- n, budget, matrix
pub data Row : Type 0 where
  row : ℕ → ℕ → List ℤ → Says → Row

-- ---- the whole answer and all buffers that a row asks for

-- the lengths of working, marks, columns, row prices, column prices
abbrev pub Lengths : Type 0
Lengths = ℕ × ℕ × ℕ × ℕ × ℕ

unfoldable pub rubbish : Lengths → Buffers
rubbish l = record {
  working = replicate l.0 (+ 77);
  marks = replicate l.1 9;
  columns = replicate l.2 99;
  row_prices = replicate l.3 (- 7);
  column_prices = replicate l.4 (- 7);
}

-- what stands in the buffers before a call
unfoldable pub prior : ℕ → Buffers
unfolding rubbish
prior n = rubbish (n * n, n * n, n, n, n)

-- working values by the prices, and marks by the star and the prime of each row
unfoldable pub filled : ℕ → List ℤ → List ℕ → List ℕ → List ℕ → List ℤ → List ℤ → Buffers
unfolding byte square table
filled n matrix columns stars primes row_prices column_prices = record {
  working = square (λ i j. let z = cell (+ 0) n matrix i j in cond (eqb (byte z) 1) (z -ℤ get_or row_prices i (+ 0) -ℤ get_or column_prices j (+ 0)) (+ 0)) n;
  marks = square (λ i j. cond (eqb (get_or stars i n) j) 1 (cond (eqb (get_or primes i n) j) 2 0)) n;
  columns = columns;
  row_prices = row_prices;
  column_prices = column_prices;
}

unfoldable pub left : ℕ → List ℤ → Left → Buffers
unfolding prior filled
left n matrix untouched = prior n
left n matrix (standing stars primes row_prices column_prices) = filled n matrix (prior n).columns stars primes row_prices column_prices

-- the set of these lines
unfoldable pub lines : List ℕ → ℕ
lines [] = 0
lines (i ∷ is) = 2 ^ i + lines is

-- number, place, total, counts, rows and columns of the block
unfoldable pub told : ℕ → ℕ → ℤ → Counts → List ℕ → List ℕ → Answer
unfolding lines
told number place sum counts rows columns = record {
  number = number;
  place = place;
  total = sum;
  adjustments = counts.0;
  primes = counts.1;
  augmentations = counts.2;
  block_rows = lines rows;
  block_columns = lines columns;
}

unfoldable pub said : ℕ → List ℤ → Says → Answer × Buffers
unfolding prior filled left told
said n matrix (paired columns sum counts row_prices column_prices) = (told 0 0 sum counts [] [], filled n matrix columns columns [] row_prices column_prices)
said n matrix (no_pairing rows columns counts l) = (told 6 0 (+ 0) counts rows columns, left n matrix l)
said n matrix (unfinished counts l) = (told 7 0 (+ 0) counts [] [], left n matrix l)
said n matrix (refused number place) = (told number place (+ 0) (0, 0, 0) [] [], prior n)

unfoldable pub wanted : Row → Option (Answer × Buffers)
unfolding said
wanted (row n budget matrix says) = some (said n matrix says)

-- ---- and what the definitions give, with every number computed: else antt can search long before it refuses a wrong figure

unfoldable pub figure : ℤ → ℤ
figure (pos m) = pos (0 + m)
figure (negsuc m) = negsuc (0 + m)

unfoldable pub answer_read : Answer → Answer
unfolding figure
answer_read a = record {
  number = 0 + a.number;
  place = 0 + a.place;
  total = figure a.total;
  adjustments = 0 + a.adjustments;
  primes = 0 + a.primes;
  augmentations = 0 + a.augmentations;
  block_rows = 0 + a.block_rows;
  block_columns = 0 + a.block_columns;
}

unfoldable pub buffers_read : Buffers → Buffers
unfolding figure
buffers_read b = record {
  working = map figure b.working;
  marks = map (λ m. 0 + m) b.marks;
  columns = map (λ m. 0 + m) b.columns;
  row_prices = map figure b.row_prices;
  column_prices = map figure b.column_prices;
}

unfoldable pub read : Option (Answer × Buffers) → Option (Answer × Buffers)
unfolding answer_read buffers_read
read none = none
read (some o) = some (answer_read o.0, buffers_read o.1)

-- 99 steps are more than any sample needs: at an end the machine stays as it is
unfoldable pub outcome : Task → Buffers → Option (Answer × Buffers)
unfolding sum sumℤ bit count first_on first any least_on least table square each_from each has with without all rest those total allows cost_at
    out_of_range has_room bad_mask bad_cost dead_row rules by_rules by_rows judgement verdict is_zero star_in_row star_in_column prime_in_row star_columns star_count row_price excess
    zero_at free_zero star_row step2 start step3 uncovered covering reaching zero_in_column zero_column step4 clear_primes augmenting path flip step5
    adjusting follow lowered raised lowest followed step6 step_at step steps given written returned judged read
outcome t before = read (judged t before 99 (verdict t 64 before))

unfoldable pub computed : Row → Option (Answer × Buffers)
unfolding byte prior outcome
computed (row n budget matrix says) = outcome (record { n = n; costs = matrix; mask = map byte matrix; budget = budget }) (prior n)

-- ---- the samples marked P, 1 to 11; where the document names no budget it is 9. Prices beyond sample 2's, stars and primes are not in the document

pub document_01 : List Row
document_01 =
    -- 1
    row 1 9 (- 5 ∷ [])
    (paired (0 ∷ []) (- 5) (0, 0, 0) (- 5 ∷ []) (+ 0 ∷ []))
    -- 2
    ∷ row 3 9 (+ 250 ∷ + 400 ∷ + 350 │ + 400 ∷ + 600 ∷ + 350 │ + 200 ∷ + 400 ∷ + 250 ∷ [])
    (paired (1 ∷ 2 ∷ 0 ∷ []) (+ 950) (1, 2, 1) (+ 250 ∷ + 350 ∷ + 200 ∷ []) (+ 0 ∷ + 150 ∷ + 0 ∷ []))
    -- 3
    ∷ row 2 9 (+ 1 ∷ + 1 │ + 2 ∷ + 2 ∷ [])
    (paired (0 ∷ 1 ∷ []) (+ 3) (0, 0, 0) (+ 1 ∷ + 2 ∷ []) (+ 0 ∷ + 0 ∷ []))
    -- 4
    ∷ row 3 9 (+ 250 ∷ + 400 ∷ + 350 │ + 400 ∷ + 600 ∷ X │ + 200 ∷ + 400 ∷ + 250 ∷ [])
    (paired (1 ∷ 0 ∷ 2 ∷ []) (+ 1050) (2, 3, 2) (+ 250 ∷ + 400 ∷ + 200 ∷ []) (+ 0 ∷ + 150 ∷ + 50 ∷ []))
    -- 4 at budget 1
    ∷ row 3 1 (+ 250 ∷ + 400 ∷ + 350 │ + 400 ∷ + 600 ∷ X │ + 200 ∷ + 400 ∷ + 250 ∷ [])
    (unfinished (1, 1, 1) (standing (0 ∷ 3 ∷ 2 ∷ []) (3 ∷ 3 ∷ 3 ∷ []) (+ 250 ∷ + 400 ∷ + 200 ∷ []) (+ 0 ∷ + 50 ∷ + 50 ∷ [])))
    -- 5
    ∷ row 3 9 (X ∷ + 400 ∷ + 350 │ X ∷ + 400 ∷ + 600 │ + 400 ∷ + 250 ∷ X ∷ [])
    (paired (2 ∷ 1 ∷ 0 ∷ []) (+ 1150) (1, 1, 1) (+ 350 ∷ + 400 ∷ + 250 ∷ []) (+ 150 ∷ + 0 ∷ + 0 ∷ []))
    -- 6
    ∷ row 3 9 (X ∷ + 400 ∷ + 350 │ X ∷ + 400 ∷ + 600 │ X ∷ + 400 ∷ + 250 ∷ [])
    (no_pairing (0 ∷ 1 ∷ 2 ∷ []) (0 ∷ []) (0, 0, 0) (standing (2 ∷ 1 ∷ 3 ∷ []) (3 ∷ 3 ∷ 3 ∷ []) (+ 350 ∷ + 400 ∷ + 250 ∷ []) (+ 0 ∷ + 0 ∷ + 0 ∷ [])))
    -- 7
    ∷ row 3 9 (X ∷ + 400 ∷ X │ X ∷ + 400 ∷ X │ + 400 ∷ + 250 ∷ + 0 ∷ [])
    (no_pairing (0 ∷ 1 ∷ []) (0 ∷ 2 ∷ []) (1, 1, 0) (standing (1 ∷ 3 ∷ 2 ∷ []) (3 ∷ 3 ∷ 0 ∷ []) (+ 400 ∷ + 400 ∷ + 0 ∷ []) (+ 400 ∷ + 0 ∷ + 0 ∷ [])))
    -- 7 at budget 0
    ∷ row 3 0 (X ∷ + 400 ∷ X │ X ∷ + 400 ∷ X │ + 400 ∷ + 250 ∷ + 0 ∷ [])
    (unfinished (0, 0, 0) (standing (1 ∷ 3 ∷ 2 ∷ []) (3 ∷ 3 ∷ 3 ∷ []) (+ 400 ∷ + 400 ∷ + 0 ∷ []) (+ 0 ∷ + 0 ∷ + 0 ∷ [])))
    -- 8
    ∷ row 3 9 (+ 1 ∷ + 1 ∷ + 1 │ X ∷ X ∷ X │ + 1 ∷ + 1 ∷ + 1 ∷ [])
    (no_pairing (1 ∷ []) (0 ∷ 1 ∷ 2 ∷ []) (0, 0, 0) untouched)
    -- 9
    ∷ row 2 9 (- 3 ∷ + 5 │ - 4 ∷ + 2 ∷ [])
    (paired (0 ∷ 1 ∷ []) (- 1) (1, 1, 1) (- 3 ∷ - 4 ∷ []) (+ 0 ∷ + 6 ∷ []))
    -- 10
    ∷ row 2 9 (X ∷ + 7 │ + 3 ∷ X ∷ [])
    (paired (1 ∷ 0 ∷ []) (+ 10) (0, 0, 0) (+ 7 ∷ + 3 ∷ []) (+ 0 ∷ + 0 ∷ []))
    -- 11
    ∷ row 3 9 (+ 0 ∷ + 5 ∷ + 5 │ + 0 ∷ + 5 ∷ + 5 │ + 0 ∷ + 5 ∷ + 5 ∷ [])
    (paired (2 ∷ 1 ∷ 0 ∷ []) (+ 10) (1, 5, 2) (+ 0 ∷ + 0 ∷ + 0 ∷ []) (+ 0 ∷ + 5 ∷ + 5 ∷ []))
    ∷ []

pub document_01_holds : map computed document_01 ≡ map wanted document_01
unfolding document_01 computed wanted
document_01_holds = refl
