-- `values::write_working` writes the working values row by row (`RowsPassed`).
use mathlib.Core.Path.{ap}
use mathlib.Core.Bool.{cond}
use native.Mathlib.Omega.{arith}
use lib.IntN.{pos, ◌-ℤ◌}
use lib.ListN.{get_or}
use mir.Syntax.{w64}
use mir.Val.{SFits}
use mir.Facts.{to_z-of_z}
use Rattle.lines.proofs.Rows.{rows_more, rows_filled}
use Rattle.steps.specs.Lent.{allows, cost_at}
use Rattle.starred.specs.Written.{working_of}
use borrow.Author.Rules.{rules}
use Rattle.starred.proofs.values.write_working.Goals as goal

pub loop-row-preserved : goal.loop-row-preserved
loop-row-preserved c =
    let l = c.loop-row in
    let a = c.args in
    let m = a.matrix in
    let f : SFits w64 (get_or a.row_prices.now l.row (pos 0)) = search rules in
    rows_more _ _ _ _ _ _ _ _ c.requires.working_square (omega arith)
    (λ j x. ap (λ p. cond (allows m.n m.mask.now l.row j) (cost_at m.n m.costs.now l.row j -ℤ p -ℤ get_or a.column_prices.now j (pos 0)) (pos 0)) (to_z-of_z f))
    c.write_row.ensures l.invariant

pub returns : goal.returns
unfolding working_of
returns c = rows_filled _ _ _ _ _ _ c.requires.working_square (omega arith) c.loop-row.invariant
