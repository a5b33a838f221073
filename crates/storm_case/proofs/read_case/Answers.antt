-- `read_case` meets its contract, by the room that is lent and by the verdict.
use Rattle.std.proofs.Common.{arith, refl, sym, ◌∙◌}
use Rattle.std.proofs.lemmas.Result.{err_from_is_err_and}
use Rattle.lines.proofs.Bounds.{cells_fit}
use Rattle.storm_case.proofs.Room.{cells_are}
use Rattle.storm_case.proofs.CaseLaws.{scan_small, cells_front, fillable, no_room, read_refused, read_accepted}
use Rattle.storm_case.proofs.read_case.Goals as goal

pub returns-then-not-has_cells : goal.returns-then-not-has_cells
returns-then-not-has_cells c = rw c.at.ensures (no_room _ _ _ (sym c.has_cells.ensures ∙ c.if-not-has_cells.true) refl)

pub returns-in_err-judge_file : goal.returns-in_err-judge_file
returns-in_err-judge_file c =
    let p = err_from_is_err_and c.from_residual.result c.from_residual.ensures.1 in
    rw (p.1, p.2) (read_refused _ _ _ (sym c.has_cells.ensures ∙ c.if-not-has_cells.false) c.in_err-judge_file.ensures.judged)

pub overflow_mul-cells : goal.overflow_mul-cells
overflow_mul-cells c = let cells = cells_fit (scan_small _ c.in_ok-judge_file.ensures.judged) in omega arith

pub slice_bounds-fill-end : goal.slice_bounds-fill-end
slice_bounds-fill-end c =
    let cells = cells_are _ _ (sym c.has_cells.ensures ∙ c.if-not-has_cells.false) in
    omega (arith, cells.0, cells_fit (scan_small _ c.in_ok-judge_file.ensures.judged))

pub slice_bounds-fill-end-2 : goal.slice_bounds-fill-end-2
slice_bounds-fill-end-2 c =
    let cells = cells_are _ _ (sym c.has_cells.ensures ∙ c.if-not-has_cells.false) in (cells_front _ c.in_ok-judge_file.ensures.judged _ cells.0).long

pub slice_bounds-fill-end-3 : goal.slice_bounds-fill-end-3
slice_bounds-fill-end-3 c =
    let cells = cells_are _ _ (sym c.has_cells.ensures ∙ c.if-not-has_cells.false) in
    omega (arith, cells.1, cells_fit (scan_small _ c.in_ok-judge_file.ensures.judged))

pub slice_bounds-fill-end-4 : goal.slice_bounds-fill-end-4
slice_bounds-fill-end-4 c =
    let cells = cells_are _ _ (sym c.has_cells.ensures ∙ c.if-not-has_cells.false) in (cells_front _ c.in_ok-judge_file.ensures.judged _ cells.1).long

pub fill-requires : goal.fill-requires
fill-requires c = fillable _ c.in_ok-judge_file.ensures.judged _ _ (sym c.has_cells.ensures ∙ c.if-not-has_cells.false)

pub returns : goal.returns
returns c = read_accepted _ _ _ (sym c.has_cells.ensures ∙ c.if-not-has_cells.false) c.in_ok-judge_file.ensures.judged c.fill.ensures
