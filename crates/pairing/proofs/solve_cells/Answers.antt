-- `solve_cells` lends the front of each buffer to the solver, and keeps its promise.
use Rattle.steps.specs.Lent.{buffers}
use Rattle.pairing.specs.Pair.{Loan, loan, front}
use Rattle.pairing.proofs.Fronts.{Fronts, fronts}
use Rattle.pairing.proofs.PairLaws.{solved_front}
use Rattle.pairing.proofs.solve_cells.Goals as goal

pub slice_bounds-solve_assignment-end : goal.slice_bounds-solve_assignment-end
slice_bounds-solve_assignment-end c =
    (fronts _ c.requires.0 c.requires.1).costs.long

pub slice_bounds-solve_assignment-end-2 : goal.slice_bounds-solve_assignment-end-2
slice_bounds-solve_assignment-end-2 c =
    (fronts _ c.requires.0 c.requires.1).mask.long

pub slice_bounds-solve_assignment-end-3 : goal.slice_bounds-solve_assignment-end-3
slice_bounds-solve_assignment-end-3 c =
    (fronts _ c.requires.0 c.requires.1).working.inside

pub slice_bounds-solve_assignment-end-4 : goal.slice_bounds-solve_assignment-end-4
slice_bounds-solve_assignment-end-4 c =
    (fronts _ c.requires.0 c.requires.1).working.long

pub slice_bounds-solve_assignment-end-5 : goal.slice_bounds-solve_assignment-end-5
slice_bounds-solve_assignment-end-5 c =
    (fronts _ c.requires.0 c.requires.1).marks.inside

pub slice_bounds-solve_assignment-end-6 : goal.slice_bounds-solve_assignment-end-6
slice_bounds-solve_assignment-end-6 c =
    (fronts _ c.requires.0 c.requires.1).marks.long

pub slice_bounds-solve_assignment-end-7 : goal.slice_bounds-solve_assignment-end-7
slice_bounds-solve_assignment-end-7 c =
    (fronts _ c.requires.0 c.requires.1).columns.inside

pub slice_bounds-solve_assignment-end-8 : goal.slice_bounds-solve_assignment-end-8
slice_bounds-solve_assignment-end-8 c =
    (fronts _ c.requires.0 c.requires.1).columns.long

pub slice_bounds-solve_assignment-end-9 : goal.slice_bounds-solve_assignment-end-9
slice_bounds-solve_assignment-end-9 c =
    (fronts _ c.requires.0 c.requires.1).row_prices.inside

pub slice_bounds-solve_assignment-end-10 : goal.slice_bounds-solve_assignment-end-10
slice_bounds-solve_assignment-end-10 c =
    (fronts _ c.requires.0 c.requires.1).row_prices.long

pub slice_bounds-solve_assignment-end-11 : goal.slice_bounds-solve_assignment-end-11
slice_bounds-solve_assignment-end-11 c =
    (fronts _ c.requires.0 c.requires.1).column_prices.inside

pub slice_bounds-solve_assignment-end-12 : goal.slice_bounds-solve_assignment-end-12
slice_bounds-solve_assignment-end-12 c =
    (fronts _ c.requires.0 c.requires.1).column_prices.long

pub returns : goal.returns
unfolding front
returns c =
    let lent : Loan = let a = c.args in
    loan a.costs.now a.mask.now (buffers a.working.now a.marks.now a.columns.now a.row_prices.now a.column_prices.now) in
    let lent_fronts : Fronts c.args.size.n lent = fronts lent c.requires.0 c.requires.1 in
    let kept = c.solve_assignment-answer.auto in
    let last = c.solve_assignment-answer.new in
    let after = buffers last.working last.marks last.columns last.row_prices last.column_prices in
    solved_front {l = lent} {after = after} lent_fronts
    (record { working = kept.working; marks = kept.marks; columns = kept.columns; row_prices = kept.row_prices; column_prices = kept.column_prices })
    c.enough.ensures c.paired.ensures c.solve_assignment-answer.ensures
