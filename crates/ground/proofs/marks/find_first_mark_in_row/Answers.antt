-- `marks::find_first_mark_in_row` meets its contract: the search along the row's cells.
use Rattle.std.proofs.Common.{◌+◌, ◌*◌, eqb, slice_range, rules, tests, ◌∙◌}
use Rattle.std.proofs.lemmas.Iterator.{YieldsList-from_slice}
use Rattle.std.proofs.lemmas.Iterator.Search.{position_from_yields_List}
use Rattle.lines.proofs.Rows.{row_found}
use Rattle.ground.proofs.marks.find_first_mark_in_row.Goals as goal

pub returns : goal.returns
returns c =
    let a = c.args in
    let row = slice_range a.marks.now (a.row * a.n) (a.row * a.n + a.n) in
    position_from_yields_List (λ m. eqb m a.mark) _ _ _ c.position.ensures.ran (YieldsList-from_slice row cc) (λ x b q k. search (rules, tests))
    ∙ row_found 0 a.marks.now a.n a.row c.requires.0 c.requires.1 (λ m. eqb m a.mark)
