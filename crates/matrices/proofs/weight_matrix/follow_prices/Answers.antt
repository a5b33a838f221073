-- `weight_matrix::follow_prices` meets its contract: the rows so far are done (`RowsPassed`).
use borrow.Author.Rules.{rules}
use mathlib.Core.Path.{◌∙◌}
use mathlib.Core.Bool.{cond}
use native.Mathlib.Omega.{arith}
use mir.Facts.{to_z-of_z}
use Rattle.lines.specs.Sets.{has}
use Rattle.lines.proofs.Tests.{T_true}
use Rattle.lines.proofs.Rows.{rows_more, rows_next, rows_all}
use Rattle.steps.specs.Lent.{allows}
use Rattle.steps.specs.Steps.{follow, followed}
use Rattle.ground.proofs.Wide.{square_fits}
use Rattle.matrices.proofs.weight_matrix.follow_prices.Goals as goal

pub follow_row-requires : goal.follow_row-requires
unfolding followed
follow_row-requires c =
    let a = c.args in
    let l = c.loop-row in
    let m = to_z-of_z c.ranges.change in
    let grid = c.requires.grid in
    record {
      grid = record { word = grid.word; mask_square = grid.mask_square; working_square = l.invariant.1.rows.long ∙ grid.working_square };
      flags = c.requires.flags;
      below = search rules;
      fits = rw m c.requires.fits;
      values = λ j h t. rw (m, c.has-covered.ensures, rows_next _ _ _ _ _ _ j l.invariant.1)
          (rw (T_true (allows a.matrix.n a.matrix.mask.now l.row j) t) at
          (square_fits a.matrix.n (λ i j w. cond (allows a.matrix.n a.matrix.mask.now i j) (follow a.change (has a.rows i) (has a.columns j) w) w) a.working.now
          grid.working_square c.requires.values l.row j (omega arith) h));
    }

pub loop-row-preserved : goal.loop-row-preserved
loop-row-preserved c =
    let l = c.loop-row in
    let k = c.has-covered.ensures in
    (search rules, rows_more _ _ _ _ _ _ _ _ c.requires.grid.working_square (omega arith) (λ j x. rw k) c.follow_row.ensures l.invariant.1)

pub returns : goal.returns
unfolding followed
returns c =
    rw (to_z-of_z c.ranges.change) at (rows_all _ _ _ _ _ _ c.requires.grid.working_square (omega arith) c.loop-row.invariant.1)
