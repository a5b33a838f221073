-- `pair_case` meets its contract, by the room that is lent and by what the file says.
use mathlib.Core.Path.{◌≡◌, refl, sym, ◌∙◌}
use mathlib.Core.Bool.{true}
use Rattle.steps.specs.Lent.{Buffers, buffers}
use Rattle.pairing.specs.Pair.{Loan, loan, enough_room}
use Rattle.storm_case.proofs.CaseLaws.{number_some}
use Rattle.pairing.proofs.PairLaws.{pair_unread, pair_asks, pair_solved}
use Rattle.pairing.proofs.pair_case.Goals as goal

pub returns-in-Err : goal.returns-in-Err
returns-in-Err c =
    let rest : Buffers = let a = c.args in buffers a.working.now a.marks.now a.columns.now a.row_prices.now a.column_prices.now in
    let lent : Loan = loan c.args.costs.now c.args.mask.now rest in
    let roomy : enough_room lent ≡ true = sym c.has_room.ensures ∙ c.if-not-has_room.false in
    pair_unread _ _ _ _ _ rest roomy c.in-Err.ensures (number_some c.in-Err.refusal.rule) c.unpaired-in-Err.ensures

pub solve_cells-requires : goal.solve_cells-requires
solve_cells-requires c =
    let rest : Buffers = let a = c.args in buffers a.working.now a.marks.now a.columns.now a.row_prices.now a.column_prices.now in
    let lent : Loan = loan c.args.costs.now c.args.mask.now rest in
    let roomy : enough_room lent ≡ true = sym c.has_room.ensures ∙ c.if-not-has_room.false in
    let kept = c.read_case.auto in
    pair_asks _ _ _ _ _ rest roomy c.in-Ok.ensures refl kept.costs kept.mask

pub returns-in-Ok : goal.returns-in-Ok
returns-in-Ok c =
    let rest : Buffers = let a = c.args in buffers a.working.now a.marks.now a.columns.now a.row_prices.now a.column_prices.now in
    let lent : Loan = loan c.args.costs.now c.args.mask.now rest in
    let roomy : enough_room lent ≡ true = sym c.has_room.ensures ∙ c.if-not-has_room.false in
    let last = c.solve_cells.new in
    let after = buffers last.working last.marks last.columns last.row_prices last.column_prices in
    pair_solved _ _ _ _ _ rest roomy c.in-Ok.ensures refl {after = after} c.solve_cells.ensures
