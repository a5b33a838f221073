-- `Stars::write_marks` puts prime and star of row after row into an empty square (`Marking`).
use mathlib.Core.Path.{◌∙◌}
use native.Mathlib.Omega.{arith}
use Rattle.lines.proofs.Squares.{table_same}
use Rattle.starred.proofs.Markings.{marking_none, marking_more, marking_all}
use Rattle.starred.proofs.stars.Stars.write_marks.Goals as goal

pub loop-row-init : goal.loop-row-init
loop-row-init c = marking_none _ _ _ _ c.requires.marks (c.fill.ensures.after (λ y e. e) ∙ table_same 0 _)

pub loop-row-preserved : goal.loop-row-preserved
loop-row-preserved c = marking_more _ _ _ _ _ _ (omega arith) c.put_mark.ensures c.put_mark-in-loop-row.ensures c.loop-row.invariant

pub returns : goal.returns
returns c = marking_all _ _ _ (omega arith) c.loop-row.invariant
