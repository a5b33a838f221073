-- `path::toggle_path` meets its contract: after k turns the first k places are flipped.
use mathlib.Core.Path.{refl, ◌∙◌}
use native.Mathlib.Omega.{arith}
use Rattle.steps.specs.Steps.{flip}
use Rattle.matrices.proofs.Walk.{flipped_more}
use Rattle.matrices.proofs.path.toggle_path.Goals as goal

pub loop-k-init : goal.loop-k-init
unfolding flip
loop-k-init c = (refl, c.requires.marks_square)

pub loop-k-preserved : goal.loop-k-preserved
loop-k-preserved c = (
  c.toggle_star.ensures ∙ flipped_more _ _ _ _ _ _ c.place-row.ensures (omega (arith, c.loop-k-test.true, c.len-k-end.ensures)) c.loop-k.invariant.0,
  c.toggle_star.auto.marks ∙ c.loop-k.invariant.1,
)
