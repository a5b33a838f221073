-- The crate's own tests of its steps, under their names, computed on the definitions of the steps. Matrices and figures are the tests' own.
use mathlib.Core.Path.{◌≡◌, refl}
use mathlib.Core.Bool.{Bool, true}
use mathlib.Core.List.{List, [], ◌∷◌}
use Prim.Native.Nat.{ℕ}
use lib.IntN.{ℤ}
use Rattle.lines.specs.Sum.{sum}
use Rattle.lines.specs.Count.{bit, count}
use Rattle.lines.specs.First.{first_on, first, any, least_on, least}
use Rattle.lines.specs.Square.{table, square, each_from, each}
use Rattle.lines.specs.Sets.{has, with, without, all, rest, those}
use Rattle.steps.specs.Lent.{cost_at}
use Rattle.steps.specs.Samples.{+◌, ◌│◌}
use Rattle.steps.specs.Steps.{Step3, Step4, Step5, Step6, Paired, run_with, machine, is_zero, star_in_row, star_in_column, prime_in_row}
use Rattle.steps.specs.Steps.{star_columns, star_count, row_price, excess, zero_at, free_zero, star_row, step2, start, step3, uncovered, covering}
use Rattle.steps.specs.Steps.{reaching, zero_in_column, zero_column, step4, clear_primes, augmenting, path, flip, step5, adjusting, follow, lowered, raised, lowest, followed, step6}

-- every cell is allowed
abbrev every : ℕ → ℕ → Bool
every i j = true

-- the costs of the test, and the working values after step 1 and after step 6
abbrev costs : List ℤ
costs = + 250 ∷ + 400 ∷ + 350 │ + 400 ∷ + 600 ∷ + 350 │ + 200 ∷ + 400 ∷ + 250 ∷ []

abbrev after_1 : List ℤ
after_1 = + 0 ∷ + 150 ∷ + 100 │ + 50 ∷ + 250 ∷ + 0 │ + 0 ∷ + 200 ∷ + 50 ∷ []

abbrev after_6 : List ℤ
after_6 = + 0 ∷ + 0 ∷ + 100 │ + 50 ∷ + 100 ∷ + 0 │ + 0 ∷ + 50 ∷ + 50 ∷ []

-- stars at (0, 0) and (1, 2); primes at (0, 1) and (2, 0) beside them; and the stars after step 5
abbrev starred : List ℕ
starred = 1 ∷ 0 ∷ 0 ∷ 0 ∷ 0 ∷ 1 ∷ 0 ∷ 0 ∷ 0 ∷ []

abbrev primed : List ℕ
primed = 1 ∷ 2 ∷ 0 ∷ 0 ∷ 0 ∷ 1 ∷ 2 ∷ 0 ∷ 0 ∷ []

abbrev flipped : List ℕ
flipped = 0 ∷ 1 ∷ 0 ∷ 0 ∷ 0 ∷ 1 ∷ 1 ∷ 0 ∷ 0 ∷ []

abbrev nothing : List ℤ
nothing = + 0 ∷ + 0 ∷ + 0 ∷ []

pub test_step1 : square (excess 3 every (cost_at 3 costs)) 3 ≡ after_1
unfolding first_on first any least_on least table square cost_at row_price excess
test_step1 = refl

-- after step 2 nothing is covered
pub test_step2 : start 3 every (cost_at 3 after_1) ≡ machine (run_with 0 0 0 0 0 Step3) after_1 starred nothing nothing
unfolding first_on first any least_on least table square cost_at is_zero star_in_column row_price excess zero_at free_zero star_row step2 start
test_step2 = refl

-- columns 0 and 2 are covered: the set 5
pub test_step3 : (step3 3 starred (run_with 0 0 0 0 0 Step3) ≡ run_with 0 5 0 0 0 Step4) × (star_count 3 starred ≡ 2)
unfolding sum bit count first_on first any has with without all rest those star_in_row star_in_column star_columns star_count step3
test_step3 = (refl, refl)

pub test_step4_case1 : step4 3 every after_1 (run_with 0 5 0 0 0 Step4) starred ≡ (run_with 0 5 0 0 0 Step6, starred)
unfolding first_on first any has with without is_zero star_in_row zero_at uncovered covering reaching zero_in_column zero_column step4
test_step4_case1 = refl

pub test_step6 : step6 3 every 1 (run_with 0 5 0 0 0 Step6) after_1 nothing nothing ≡ (run_with 0 5 1 0 0 Step4, after_6, nothing, + 0 ∷ + 150 ∷ + 0 ∷ [])
unfolding first_on first any least_on least each_from each has uncovered adjusting follow lowered raised lowest followed step6
test_step6 = refl

-- a step 4 for each prime; then row 0 is covered, and of the columns column 2 alone
pub test_step4_case2 : (let o = step4 3 every after_6 (run_with 0 5 0 0 0 Step4) starred in step4 3 every after_6 o.0 o.1)
    ≡ (run_with 1 4 0 2 0 (Step5 2 0), primed)
unfolding first_on first any has with without is_zero star_in_row zero_at uncovered covering reaching zero_in_column zero_column step4
test_step4_case2 = refl

-- nothing is covered, and the one star off the path stays
pub test_step5 : step5 3 2 0 (run_with 1 4 0 2 0 (Step5 2 0)) primed ≡ (run_with 0 0 0 2 1 Step3, flipped)
unfolding first_on first any each_from each star_in_column prime_in_row clear_primes augmenting path flip step5
test_step5 = refl

abbrev equal_rows : List ℤ
equal_rows = + 1 ∷ + 1 │ + 2 ∷ + 2 ∷ []

pub test_solve_equal_rows_stepwise : (start 2 every (cost_at 2 equal_rows)
    ≡ machine (run_with 0 0 0 0 0 Step3) (+ 0 ∷ + 0 │ + 0 ∷ + 0 ∷ []) (1 ∷ 0 ∷ 0 ∷ 1 ∷ []) (+ 1 ∷ + 2 ∷ []) (+ 0 ∷ + 0 ∷ []))
    × (step3 2 (1 ∷ 0 ∷ 0 ∷ 1 ∷ []) (run_with 0 0 0 0 0 Step3) ≡ run_with 0 3 0 0 0 Paired)
unfolding sum bit count first_on first any least_on least table square has with without all rest those cost_at is_zero star_in_row star_in_column star_columns
    star_count row_price excess zero_at free_zero star_row step2 start step3
test_solve_equal_rows_stepwise = (refl, refl)

-- the least of a row; less 1 in row 1 alone, as step 6 does with row 0 covered; less its least in each row
pub test_weight_matrix : (row_price 1 every (cost_at 1 (+ 0 ∷ [])) 0 ≡ + 0) × (row_price 1 every (cost_at 1 (+ 1 ∷ [])) 0 ≡ + 1)
    × (row_price 2 every (cost_at 2 (+ 5 ∷ + 1 │ + 0 ∷ + 0 ∷ [])) 0 ≡ + 1)
    × (followed 2 every (+ 1) 1 0 (+ 0 ∷ + 1 │ + 2 ∷ + 3 ∷ []) ≡ + 0 ∷ + 1 │ + 1 ∷ + 2 ∷ [])
    × (square (excess 2 every (cost_at 2 (+ 5 ∷ + 3 │ + 2 ∷ + 3 ∷ []))) 2 ≡ + 2 ∷ + 0 │ + 0 ∷ + 1 ∷ [])
unfolding first_on first any least_on least table square each_from each has cost_at row_price excess follow followed
test_weight_matrix = (refl, refl, refl, refl, refl)
