-- What is printed, computed by the definitions from the bytes of a file: document 01's whole example, a file without a pairing, and the empty file.
use mathlib.Core.Path.{◌≡◌, refl}
use mathlib.Core.List.{List, [], ◌∷◌, ◌++◌}
use mathlib.Core.Option.{some}
use Prim.Native.Nat.{ℕ}
use lib.ListN.{replicate}
use Rattle.lines.specs.Sum.{sum, sumℤ}
use Rattle.lines.specs.Count.{bit, count}
use Rattle.lines.specs.First.{first_on, first, any, least_on, least}
use Rattle.lines.specs.Square.{table, square, each_from, each}
use Rattle.lines.specs.Sets.{has, with, without, all, rest, those}
use Rattle.assignment.specs.Problem.{total}
use Rattle.steps.specs.Lent.{allows, cost_at}
use Rattle.steps.specs.Rules.{by_rules}
use Rattle.steps.specs.Refusal.{out_of_range, has_room, bad_mask, bad_cost, dead_row, rules, by_rows, judgement, verdict}
use Rattle.steps.specs.Steps.{is_zero, star_in_row, star_in_column, prime_in_row, star_columns, star_count, row_price, excess, zero_at}
use Rattle.steps.specs.Steps.{free_zero, star_row, step2, start, step3, uncovered, covering, reaching, zero_in_column, zero_column, step4}
use Rattle.steps.specs.Steps.{clear_primes, augmenting, path, flip, step5, adjusting, follow, lowered, raised, lowest, followed, step6, step_at, step, steps}
use Rattle.steps.specs.Outcome.{given, written, returned}
use Rattle.steps.specs.Outcome as solver
use Rattle.records.specs.Records.{known, body_length, found}
use Rattle.storm_case.specs.Numbers.{u16_at, u32_at}
use Rattle.storm_case.specs.Scan.{bad_size, size, line, end, by_kind, record_of, judge_record, judge_from, judged}
use Rattle.storm_case.specs.Case.{hut_of, row_area, row_clock, column_area, column_clock, clock_error, may_pair, pair_cost, mask_byte}
use Rattle.storm_case.specs.Said.{said_in, said}
use Rattle.judgement.proofs.Samples.{example, one}
use Rattle.pairing.specs.Pair.{front, enough}
use Rattle.text.specs.Numbers.{decimal_from, decimal, sign, signed, refusal}
use Rattle.valley.specs.Lines.{row_line, row_lines, total_line, lines}
use Rattle.valley.specs.Computed.{solved, printed_of, printed}

-- `7 0`, `9 1`, `TOTAL 800`
abbrev pub example_text : List ℕ
example_text = 55 ∷ 32 ∷ 48 ∷ 10 ∷ 57 ∷ 32 ∷ 49 ∷ 10 ∷ 84 ∷ 79 ∷ 84 ∷ 65 ∷ 76 ∷ 32 ∷ 56 ∷ 48 ∷ 48 ∷ 10 ∷ []

-- from the 40 bytes of the file to its text
pub example_printed : printed example ≡ some example_text
unfolding judged judge_from judge_record record_of by_kind size line end bad_size found known body_length u16_at u32_at
    pair_cost mask_byte may_pair clock_error row_area row_clock column_area column_clock said said_in hut_of front enough
    sum sumℤ bit count first_on first any least_on least table square each_from each has with without all rest those total allows cost_at
    out_of_range has_room bad_mask bad_cost dead_row rules by_rules by_rows judgement verdict is_zero star_in_row star_in_column prime_in_row star_columns star_count row_price excess
    zero_at free_zero star_row step2 start step3 uncovered covering reaching zero_in_column zero_column step4 clear_primes augmenting path flip step5
    adjusting follow lowered raised lowest followed step6 step_at step steps given written returned solver.judged
    solved printed_of printed lines row_lines row_line total_line signed sign decimal decimal_from
example_printed = refl

-- a fragment in area 0 and an event in area 1: `NO PAIRING`
pub none_printed : printed (one ++ (2 ∷ replicate 8 0) ++ (3 ∷ 1 ∷ replicate 5 0) ++ (4 ∷ [])) ≡ some (78 ∷ 79 ∷ 32 ∷ 80 ∷ 65 ∷ 73 ∷ 82 ∷ 73 ∷ 78 ∷ 71 ∷ 10 ∷ [])
unfolding judged judge_from judge_record record_of by_kind size line end bad_size found known body_length u16_at u32_at
    pair_cost mask_byte may_pair clock_error row_area row_clock column_area column_clock front enough
    first_on first any table square has with all allows cost_at out_of_range has_room bad_mask bad_cost dead_row rules by_rules by_rows judgement verdict solver.judged
    solved printed_of printed lines
none_printed = refl

-- `REFUSED 21 AT 0`
pub empty_printed : printed [] ≡ some (82 ∷ 69 ∷ 70 ∷ 85 ∷ 83 ∷ 69 ∷ 68 ∷ 32 ∷ 50 ∷ 49 ∷ 32 ∷ 65 ∷ 84 ∷ 32 ∷ 48 ∷ 10 ∷ [])
unfolding judged judge_from judge_record record_of found printed_of printed lines refusal decimal decimal_from
empty_printed = refl
