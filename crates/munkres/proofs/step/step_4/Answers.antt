-- `step_4` meets its contract, by what the search found: a zero whose row has a star, one whose row has none, or no zero.
use native.Mathlib.Omega.{arith}
use mathlib.Core.Path.{sym, ◌∙◌}
use lib.ListN.{length-set}
use Rattle.lines.proofs.Firsts.{some_found}
use Rattle.lines.proofs.Squares.{place_lt}
use Rattle.ground.specs.View.{view}
use Rattle.munkres.proofs.StepLaws.{found_at, step4_covers, step4_reaches, step4_none}
use Rattle.munkres.proofs.step.step_4.Goals as goal

pub overflow_mul-marks : goal.overflow_mul-marks
overflow_mul-marks c =
    let found = found_at _ _ _ (view c.args.run) (sym c.find_uncovered_cell_column_row_order-found.ensures ∙ c.in-Some.is) in
    omega (arith, place_lt c.args.matrix.n _ _ found.row_below found.column_below, c.requires.marks_square)

pub overflow_add-marks : goal.overflow_add-marks
overflow_add-marks c =
    let found = found_at _ _ _ (view c.args.run) (sym c.find_uncovered_cell_column_row_order-found.ensures ∙ c.in-Some.is) in
    omega (arith, place_lt c.args.matrix.n _ _ found.row_below found.column_below, c.requires.marks_square)

pub bounds-marks-row : goal.bounds-marks-row
bounds-marks-row c =
    let found = found_at _ _ _ (view c.args.run) (sym c.find_uncovered_cell_column_row_order-found.ensures ∙ c.in-Some.is) in
    omega (arith, place_lt c.args.matrix.n _ _ found.row_below found.column_below, c.requires.marks_square)

pub find_first_star_in_row-requires : goal.find_first_star_in_row-requires
find_first_star_in_row-requires c =
    let found = found_at _ _ _ (view c.args.run) (sym c.find_uncovered_cell_column_row_order-found.ensures ∙ c.in-Some.is) in
    (simp length-set c.requires.marks_square, found.row_below)

pub covering-requires : goal.covering-requires
covering-requires c =
    let found = found_at _ _ _ (view c.args.run) (sym c.find_uncovered_cell_column_row_order-found.ensures ∙ c.in-Some.is) in
    let pre = c.requires in
    record {
      row_bit = omega (arith, found.row_below, pre.grid.word.most);
      star_bit = omega (arith, some_found _ _ _ (sym c.in-Some-find_first_star_in_row.ensures), pre.grid.word.most);
      more = pre.more;
    }

pub returns-in-Some-find_first_star_in_row : goal.returns-in-Some-find_first_star_in_row
returns-in-Some-find_first_star_in_row c =
    let found = found_at _ _ _ (view c.args.run) (sym c.find_uncovered_cell_column_row_order-found.ensures ∙ c.in-Some.is) in
    step4_covers _ _ _ (view c.args.run) _ _ _ _ found c.in-Some-find_first_star_in_row.ensures c.covering.ensures

pub reaching-requires : goal.reaching-requires
reaching-requires c = c.requires.more

pub returns-in-None : goal.returns-in-None
returns-in-None c =
    let found = found_at _ _ _ (view c.args.run) (sym c.find_uncovered_cell_column_row_order-found.ensures ∙ c.in-Some.is) in
    step4_reaches _ _ _ (view c.args.run) _ _ _ found c.in-None.ensures c.reaching.ensures

pub returns-in_default : goal.returns-in_default
returns-in_default c =
    step4_none _ _ _ (view c.args.run) _ (sym c.find_uncovered_cell_column_row_order-found.ensures ∙ c.in_default.is) c.to.ensures
