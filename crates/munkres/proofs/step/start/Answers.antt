-- `start` gives the definition's start: each call gives one part of it.
use mathlib.Core.Path.{ap, ◌∙◌}
use lib.IntN.{pos}
use Rattle.lines.specs.Square.{table, square}
use Rattle.lines.proofs.Squares.{table_same}
use Rattle.munkres.proofs.StarLaws.{start_made}
use Rattle.munkres.proofs.step.start.Goals as goal

pub step_2-requires : goal.step_2-requires
unfolding square
step_2-requires c =
    let pre = c.requires in
    let grid = pre.grid in (
      record { word = grid.word; mask_square = grid.mask_square; working_square = c.sub_min_of_each_row.auto.working ∙ grid.working_square },
      c.fill.ensures.after (λ y q. q) ∙ table_same _ _ ∙ ap (table (λ k. 0)) pre.marks_square,
    )

pub returns : goal.returns
returns c =
    let zeros = c.clear_prices.ensures ∙ ap (table (λ k. pos 0)) c.requires.column_lines in
    start_made _ _ _ _ _ _ _ _ c.begun.ensures c.sub_min_of_each_row.ensures.0 c.step_2.ensures c.sub_min_of_each_row.ensures.1 zeros
