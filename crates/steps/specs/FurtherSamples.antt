-- Samples that are not in document 01's table: matrices that tell slips in the steps apart, each refusal alone and beside every other, and the crate's test with n = 10.
use Rattle.std.specs.Prelude.{◌≡◌, refl, List, [], ◌∷◌, map, ℕ, ℤ, replicate}
use Rattle.std.proofs.Math.Option.{Option, some}
use Rattle.steps.specs.declared.Answer.{Answer}
use Rattle.steps.specs.Lent.{Buffers}
use Rattle.steps.specs.Samples.{+◌, -◌, X, ◌│◌, untouched, standing, paired, no_pairing, unfinished, refused, Row, row, Lengths, rubbish, told, wanted, outcome, computed}

-- ---- the steps

-- the largest cost
abbrev pub most : ℕ
most = 1_000_000_000

pub further : List Row
further =
    -- step 4 goes by columns: by rows it ends with 1 2 0 and counts 1 5 2
    row 3 9 (+ 0 ∷ + 0 ∷ + 0 │ + 0 ∷ + 2 ∷ + 1 │ + 0 ∷ + 1 ∷ + 1 ∷ [])
    (paired (2 ∷ 0 ∷ 1 ∷ []) (+ 1) (1, 4, 2) (- 1 ∷ + 0 ∷ + 0 ∷ []) (+ 0 ∷ + 1 ∷ + 1 ∷ []))
    -- samples 6 and 7 with the budget spent: the minimum is looked for first
    ∷ row 3 0 (X ∷ + 400 ∷ + 350 │ X ∷ + 400 ∷ + 600 │ X ∷ + 400 ∷ + 250 ∷ [])
    (no_pairing (0 ∷ 1 ∷ 2 ∷ []) (0 ∷ []) (0, 0, 0) (standing (2 ∷ 1 ∷ 3 ∷ []) (3 ∷ 3 ∷ 3 ∷ []) (+ 350 ∷ + 400 ∷ + 250 ∷ []) (+ 0 ∷ + 0 ∷ + 0 ∷ [])))
    ∷ row 3 1 (X ∷ + 400 ∷ X │ X ∷ + 400 ∷ X │ + 400 ∷ + 250 ∷ + 0 ∷ [])
    (no_pairing (0 ∷ 1 ∷ []) (0 ∷ 2 ∷ []) (1, 1, 0) (standing (1 ∷ 3 ∷ 2 ∷ []) (3 ∷ 3 ∷ 0 ∷ []) (+ 400 ∷ + 400 ∷ + 0 ∷ []) (+ 400 ∷ + 0 ∷ + 0 ∷ [])))
    -- the limits of a cost
    ∷ row 1 9 (+ most ∷ [])
    (paired (0 ∷ []) (+ most) (0, 0, 0) (+ most ∷ []) (+ 0 ∷ []))
    ∷ row 1 9 (- most ∷ [])
    (paired (0 ∷ []) (- most) (0, 0, 0) (- most ∷ []) (+ 0 ∷ []))
    ∷ row 1 9 (+ 1_000_000_001 ∷ [])
    (refused 5 0)
    ∷ row 1 9 (- 1_000_000_001 ∷ [])
    (refused 5 0)
    -- beyond 32 bits: a price and a working value; then a total
    ∷ row 3 9 (- most ∷ - most ∷ + most │ + most ∷ + most ∷ - most │ + most ∷ + most ∷ - most ∷ [])
    (paired (1 ∷ 2 ∷ 0 ∷ []) (- most) (1, 3, 1) (- 3_000_000_000 ∷ - most ∷ - most ∷ []) (+ 2_000_000_000 ∷ + 2_000_000_000 ∷ + 0 ∷ []))
    ∷ row 3 9 (+ most ∷ X ∷ X │ X ∷ + most ∷ X │ X ∷ X ∷ + most ∷ [])
    (paired (0 ∷ 1 ∷ 2 ∷ []) (+ 3_000_000_000) (0, 0, 0) (+ most ∷ + most ∷ + most ∷ []) (+ 0 ∷ + 0 ∷ + 0 ∷ []))
    -- of two dead rows the first alone is in the block
    ∷ row 3 9 (+ 1 ∷ + 2 ∷ + 3 │ X ∷ X ∷ X │ X ∷ X ∷ X ∷ [])
    (no_pairing (1 ∷ []) (0 ∷ 1 ∷ 2 ∷ []) (0, 0, 0) untouched)
    -- column 2 is dead, and the block is another: nothing tests the columns
    ∷ row 4 9 (+ 2 ∷ + 0 ∷ X ∷ + 0 │ X ∷ + 1 ∷ X ∷ X │ X ∷ + 2 ∷ X ∷ X │ X ∷ + 1 ∷ X ∷ X ∷ [])
    (no_pairing (1 ∷ 2 ∷ 3 ∷ []) (0 ∷ 2 ∷ 3 ∷ []) (1, 3, 1) (standing (3 ∷ 1 ∷ 4 ∷ 4 ∷ []) (0 ∷ 4 ∷ 4 ∷ 4 ∷ [])
    (+ 0 ∷ + 1 ∷ + 2 ∷ + 1 ∷ []) (+ 2 ∷ + 0 ∷ + 2 ∷ + 0 ∷ [])))
    -- a path of 5 places, longer than n, then two adjustments in one round: step 6 leaves the covers as they are
    ∷ row 4 9 (+ 1 ∷ + 1 ∷ X ∷ + 3 │ + 1 ∷ X ∷ X ∷ X │ + 1 ∷ + 0 ∷ + 0 ∷ + 1 │ + 0 ∷ X ∷ X ∷ X ∷ [])
    (no_pairing (1 ∷ 3 ∷ []) (1 ∷ 2 ∷ 3 ∷ []) (2, 5, 1) (standing (1 ∷ 0 ∷ 2 ∷ 4 ∷ []) (3 ∷ 4 ∷ 3 ∷ 4 ∷ [])
    (+ 1 ∷ + 1 ∷ - 1 ∷ + 0 ∷ []) (+ 0 ∷ + 0 ∷ + 1 ∷ + 2 ∷ [])))
    -- stopped between the two, with a row covered
    ∷ row 4 1 (+ 1 ∷ + 1 ∷ X ∷ + 3 │ + 1 ∷ X ∷ X ∷ X │ + 1 ∷ + 0 ∷ + 0 ∷ + 1 │ + 0 ∷ X ∷ X ∷ X ∷ [])
    (unfinished (1, 4, 1) (standing (1 ∷ 0 ∷ 2 ∷ 4 ∷ []) (4 ∷ 4 ∷ 3 ∷ 4 ∷ []) (+ 1 ∷ + 1 ∷ + 0 ∷ + 0 ∷ []) (+ 0 ∷ + 0 ∷ + 0 ∷ + 1 ∷ [])))
    -- a path of 7 places, 2 n - 1
    ∷ row 4 9 (+ 2 ∷ + 2 ∷ + 2 ∷ + 0 │ X ∷ + 1 ∷ + 1 ∷ + 0 │ X ∷ X ∷ + 2 ∷ + 1 │ + 2 ∷ + 0 ∷ + 0 ∷ + 1 ∷ [])
    (paired (0 ∷ 3 ∷ 2 ∷ 1 ∷ []) (+ 4) (2, 6, 2) (+ 0 ∷ + 0 ∷ + 1 ∷ - 1 ∷ []) (+ 2 ∷ + 1 ∷ + 1 ∷ + 0 ∷ []))
    -- a prime off the first path would mislead the second path if it were not cleared
    ∷ row 4 9 (+ 2 ∷ X ∷ + 2 ∷ + 2 │ + 0 ∷ + 0 ∷ + 1 ∷ + 1 │ + 3 ∷ + 2 ∷ X ∷ + 3 │ + 0 ∷ X ∷ + 2 ∷ + 2 ∷ [])
    (paired (3 ∷ 2 ∷ 1 ∷ 0 ∷ []) (+ 5) (1, 6, 2) (+ 1 ∷ + 0 ∷ + 2 ∷ + 0 ∷ []) (+ 0 ∷ + 0 ∷ + 1 ∷ + 1 ∷ []))
    ∷ []

pub further_holds : map computed further ≡ map wanted further
unfolding further computed wanted
further_holds = refl

-- ---- refusals: no buffer is touched

-- n, costs, mask; the lengths of the buffers; number and place of the refusal
pub data Trial : Type 0 where
  trial : ℕ → List ℤ → List ℕ → Lengths → ℕ → ℕ → Trial

unfoldable pub refusal_wanted : Trial → Option (Answer × Buffers)
unfolding told rubbish
refusal_wanted (trial n costs mask l number place) = some (told number place (+ 0) (0, 0, 0) [] [], rubbish l)

unfoldable pub refusal_computed : Trial → Option (Answer × Buffers)
unfolding outcome rubbish
refusal_computed (trial n costs mask l number place) = outcome (record { n = n; costs = costs; mask = mask; budget = 9 }) (rubbish l)

abbrev sevens : ℕ → List ℤ
sevens k = replicate k (+ 7)

abbrev ones : ℕ → List ℕ
ones k = replicate k 1

pub refusals : List Trial
refusals =
    -- the size; 64 is not too large
    trial 0 [] [] (0, 0, 0, 0, 0) 1 0
    ∷ trial 65 (sevens 4225) (ones 4225) (4225, 4225, 65, 65, 65) 2 0
    ∷ trial 64 [] [] (0, 0, 0, 0, 0) 3 0
    -- each length, too short and too long
    ∷ trial 2 (sevens 3) (ones 4) (4, 4, 2, 2, 2) 3 0
    ∷ trial 2 (sevens 5) (ones 4) (4, 4, 2, 2, 2) 3 0
    ∷ trial 2 (sevens 4) (ones 3) (4, 4, 2, 2, 2) 3 0
    ∷ trial 2 (sevens 4) (ones 5) (4, 4, 2, 2, 2) 3 0
    ∷ trial 2 (sevens 4) (ones 4) (3, 4, 2, 2, 2) 3 0
    ∷ trial 2 (sevens 4) (ones 4) (5, 4, 2, 2, 2) 3 0
    ∷ trial 2 (sevens 4) (ones 4) (4, 3, 2, 2, 2) 3 0
    ∷ trial 2 (sevens 4) (ones 4) (4, 5, 2, 2, 2) 3 0
    ∷ trial 2 (sevens 4) (ones 4) (4, 4, 1, 2, 2) 3 0
    ∷ trial 2 (sevens 4) (ones 4) (4, 4, 3, 2, 2) 3 0
    ∷ trial 2 (sevens 4) (ones 4) (4, 4, 2, 1, 2) 3 0
    ∷ trial 2 (sevens 4) (ones 4) (4, 4, 2, 3, 2) 3 0
    ∷ trial 2 (sevens 4) (ones 4) (4, 4, 2, 2, 1) 3 0
    ∷ trial 2 (sevens 4) (ones 4) (4, 4, 2, 2, 3) 3 0
    -- a mask byte above 1; of two the lower place
    ∷ trial 2 (sevens 4) (1 ∷ 1 ∷ 1 ∷ 2 ∷ []) (4, 4, 2, 2, 2) 4 3
    ∷ trial 2 (sevens 4) (1 ∷ 2 ∷ 255 ∷ 1 ∷ []) (4, 4, 2, 2, 2) 4 1
    -- an allowed cost out of range; of two the lower place; a forbidden one is passed over
    ∷ trial 2 (+ 7 ∷ + 7 │ + 7 ∷ + 1_000_000_001 ∷ []) (ones 4) (4, 4, 2, 2, 2) 5 3
    ∷ trial 2 (+ 7 ∷ - 1_000_000_001 │ + 1_000_000_001 ∷ + 7 ∷ []) (ones 4) (4, 4, 2, 2, 2) 5 1
    ∷ trial 2 (- 1_000_000_001 ∷ + 7 │ + 1_000_000_001 ∷ + 7 ∷ []) (0 ∷ 1 ∷ 1 ∷ 1 ∷ []) (4, 4, 2, 2, 2) 5 2
    -- two at once: 1 with 3, and with what would be 4 and 5
    ∷ trial 0 (sevens 1) (ones 1) (1, 1, 1, 1, 1) 1 0
    ∷ trial 0 (sevens 1) (2 ∷ []) (1, 1, 1, 1, 1) 1 0
    ∷ trial 0 (+ 1_000_000_001 ∷ []) (ones 1) (1, 1, 1, 1, 1) 1 0
    -- 2 with 3, 4, 5
    ∷ trial 65 [] [] (0, 0, 0, 0, 0) 2 0
    ∷ trial 65 (sevens 4225) (2 ∷ ones 4224) (4225, 4225, 65, 65, 65) 2 0
    ∷ trial 65 (+ 1_000_000_001 ∷ sevens 4224) (ones 4225) (4225, 4225, 65, 65, 65) 2 0
    -- 3 with 4, 5
    ∷ trial 2 (sevens 4) (2 ∷ ones 3) (4, 4, 2, 2, 3) 3 0
    ∷ trial 2 (+ 1_000_000_001 ∷ sevens 3) (ones 4) (4, 4, 2, 2, 3) 3 0
    -- 4 with 5, at a lower place and at the same
    ∷ trial 2 (+ 1_000_000_001 ∷ sevens 3) (1 ∷ 1 ∷ 1 ∷ 2 ∷ []) (4, 4, 2, 2, 2) 4 3
    ∷ trial 2 (+ 1_000_000_001 ∷ sevens 3) (2 ∷ ones 3) (4, 4, 2, 2, 2) 4 0
    -- 4 and 5 with a dead row
    ∷ trial 2 (sevens 4) (0 ∷ 0 ∷ 1 ∷ 2 ∷ []) (4, 4, 2, 2, 2) 4 3
    ∷ trial 2 (+ 7 ∷ + 7 │ + 7 ∷ - 1_000_000_001 ∷ []) (0 ∷ 0 ∷ 1 ∷ 1 ∷ []) (4, 4, 2, 2, 2) 5 3
    ∷ []

pub refusals_hold : map refusal_computed refusals ≡ map refusal_wanted refusals
unfolding refusals refusal_computed refusal_wanted
refusals_hold = refl

-- ---- the test test_solve_random10 of the crate, with budget n (n - 1) │ 2

pub random10 : Row
random10 =
    row 10 45
    (+ 612 ∷ + 643 ∷ + 717 ∷ + 2 ∷ + 946 ∷ + 534 ∷ + 242 ∷ + 235 ∷ + 376 ∷ + 839
    │ + 224 ∷ + 141 ∷ + 799 ∷ + 180 ∷ + 386 ∷ + 745 ∷ + 592 ∷ + 822 ∷ + 421 ∷ + 42
    │ + 241 ∷ + 369 ∷ + 831 ∷ + 67 ∷ + 258 ∷ + 549 ∷ + 615 ∷ + 529 ∷ + 458 ∷ + 524
    │ + 231 ∷ + 649 ∷ + 287 ∷ + 910 ∷ + 12 ∷ + 820 ∷ + 31 ∷ + 92 ∷ + 217 ∷ + 555
    │ + 912 ∷ + 81 ∷ + 568 ∷ + 241 ∷ + 292 ∷ + 653 ∷ + 417 ∷ + 652 ∷ + 630 ∷ + 788
    │ + 32 ∷ + 822 ∷ + 788 ∷ + 166 ∷ + 122 ∷ + 690 ∷ + 304 ∷ + 568 ∷ + 449 ∷ + 214
    │ + 441 ∷ + 469 ∷ + 584 ∷ + 633 ∷ + 213 ∷ + 414 ∷ + 498 ∷ + 500 ∷ + 317 ∷ + 391
    │ + 798 ∷ + 581 ∷ + 183 ∷ + 420 ∷ + 16 ∷ + 748 ∷ + 35 ∷ + 516 ∷ + 639 ∷ + 356
    │ + 351 ∷ + 921 ∷ + 67 ∷ + 33 ∷ + 592 ∷ + 775 ∷ + 780 ∷ + 335 ∷ + 464 ∷ + 788
    │ + 771 ∷ + 455 ∷ + 950 ∷ + 25 ∷ + 22 ∷ + 576 ∷ + 969 ∷ + 122 ∷ + 86 ∷ + 74 ∷ [])
    (paired (7 ∷ 9 ∷ 3 ∷ 4 ∷ 1 ∷ 0 ∷ 5 ∷ 6 ∷ 2 ∷ 8 ∷ []) (+ 1071) (7, 13, 5)
    (+ 2 ∷ + 42 ∷ + 67 ∷ - 141 ∷ + 81 ∷ - 31 ∷ + 60 ∷ - 137 ∷ + 33 ∷ - 131 ∷ [])
    (+ 63 ∷ + 0 ∷ + 34 ∷ + 0 ∷ + 153 ∷ + 354 ∷ + 172 ∷ + 233 ∷ + 217 ∷ + 0 ∷ []))

pub random10_holds : computed random10 ≡ wanted random10
unfolding random10 computed wanted
random10_holds = refl
