-- Document 01's example, computed: its cells and its huts.
use mathlib.Core.Path.{◌≡◌, refl}
use mathlib.Core.List.{[], ◌∷◌}
use lib.IntN.{pos}
use Rattle.lines.specs.Square.{table, square}
use Rattle.records.specs.Records.{known, body_length, found}
use Rattle.judgement.specs.Numbers.{u16_at, u32_at}
use Rattle.judgement.specs.Scan.{bad_size, size, line, end, by_kind, record_of, judge_record, judge_from, judged}
use Rattle.judgement.proofs.Samples.{example, scanned}
use Rattle.std.specs.Prelude.{Some, None}
use Rattle.storm_case.specs.Case.{hut_of, row_area, row_clock, column_area, column_clock, clock_error, may_pair, pair_cost, mask_byte, hut_in, hut}

pub example_cells : (square (pair_cost example scanned) 2 ≡ (pos 300 ∷ pos 900 ∷ pos 100 ∷ pos 500 ∷ [])) × (square (mask_byte example scanned) 2 ≡ (1 ∷ 1 ∷ 1 ∷ 1 ∷ []))
unfolding judged judge_from judge_record record_of by_kind size line end bad_size found known body_length u16_at u32_at pair_cost mask_byte may_pair clock_error row_area row_clock column_area column_clock square table
example_cells = (refl, refl)

pub example_huts : (hut example 0 ≡ Some 7) × (hut example 1 ≡ Some 9) × (hut example 2 ≡ None)
unfolding judged judge_from judge_record record_of by_kind size line end bad_size found known body_length u16_at u32_at hut hut_in hut_of
example_huts = (refl, refl, refl)
