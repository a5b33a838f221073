-- `judge` meets its contract: at each place of the code, what the rules so far leave of the judgement.
use mathlib.Core.Path.{sym, ◌∙◌}
use native.Mathlib.Omega.{arith}
use borrow.Author.Tests.{ltb-false}
use Rattle.rules.proofs.JudgeLaws as J
use Rattle.rules.proofs.judge.Goals as goal

pub returns-in_err-check_rows : goal.returns-in_err-check_rows
returns-in_err-check_rows c =
    let from = (J.from_1 _ _ _ _ _) in
    J.refused_by _ _ c.from_residual.ensures.1 (J.stops _ _ _ _ _ _ _ from c.in_err-check_rows.ensures)

pub returns-in_err-check_limit : goal.returns-in_err-check_limit
returns-in_err-check_limit c =
    let from = (J.goes_on _ _ _ _ _ _ _ (J.from_1 _ _ _ _ _) c.in_ok-check_rows.ensures) in
    J.refused_by _ _ c.from_residual-in_err-check_limit.ensures.1 (J.stops _ _ _ _ _ _ _ from c.in_err-check_limit.ensures)

pub check_lengths-requires : goal.check_lengths-requires
check_lengths-requires c =
    let within = ltb-false _ _ (J.passed _ c.in_ok-check_limit.ensures) in
    omega (arith, within, c.ranges.limit.fits)

pub returns-in_err-check_lengths : goal.returns-in_err-check_lengths
returns-in_err-check_lengths c =
    let from = (J.past_limit _ _ _ _ _ c.in_ok-check_rows.ensures c.in_ok-check_limit.ensures) in
    J.refused_by _ _ c.from_residual-in_err-check_lengths.ensures.1 (J.stops _ _ _ _ _ _ _ from c.in_err-check_lengths.ensures)

pub returns-in_err-check_mask : goal.returns-in_err-check_mask
returns-in_err-check_mask c =
    let from = (J.past_lengths _ _ _ _ _ c.in_ok-check_rows.ensures c.in_ok-check_limit.ensures c.in_ok-check_lengths.ensures) in
    let here = J.at_cells _ _ _ _ _ c.in_ok-check_rows.ensures c.in_ok-check_limit.ensures c.in_ok-check_lengths.ensures _ _ c.in_err-check_mask.ensures in
    J.refused_by _ _ c.from_residual-in_err-check_mask.ensures.1 (J.stops _ _ _ _ _ _ _ from here)

pub check_costs-requires : goal.check_costs-requires
check_costs-requires c = let lengths = J.lengths_passed c.args.limit _ c.args.costs.now c.args.mask.now _ c.in_ok-check_lengths.ensures in lengths.costs_length ∙ sym lengths.mask_length

pub returns-in_err-check_costs : goal.returns-in_err-check_costs
returns-in_err-check_costs c =
    let from = (J.past_mask _ _ _ _ _ c.in_ok-check_rows.ensures c.in_ok-check_limit.ensures c.in_ok-check_lengths.ensures c.in_ok-check_mask.ensures) in
    let here = J.at_cells _ _ _ _ _ c.in_ok-check_rows.ensures c.in_ok-check_limit.ensures c.in_ok-check_lengths.ensures _ _ c.in_err-check_costs.ensures in
    J.refused_by _ _ c.from_residual-in_err-check_costs.ensures.1 (J.stops _ _ _ _ _ _ _ from here)

pub find_dead_row-requires : goal.find_dead_row-requires
find_dead_row-requires c = (J.lengths_passed c.args.limit _ c.args.costs.now c.args.mask.now _ c.in_ok-check_lengths.ensures).mask_length

pub returns-in-Some : goal.returns-in-Some
returns-in-Some c =
    let from = J.past_costs _ _ _ _ _ c.in_ok-check_rows.ensures c.in_ok-check_limit.ensures c.in_ok-check_lengths.ensures c.in_ok-check_mask.ensures c.in_ok-check_costs.ensures in
    sym (J.row_dead _ _ _ _ _ from (sym c.in-Some.is ∙ c.find_dead_row.ensures))

pub returns-in-None : goal.returns-in-None
returns-in-None c =
    let from = J.past_costs _ _ _ _ _ c.in_ok-check_rows.ensures c.in_ok-check_limit.ensures c.in_ok-check_lengths.ensures c.in_ok-check_mask.ensures c.in_ok-check_costs.ensures in
    sym (J.rows_alive _ _ _ _ _ from (sym c.in-None.is ∙ c.find_dead_row.ensures))
