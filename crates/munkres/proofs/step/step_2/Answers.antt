-- `step_2` gives the definition's marks.
use mathlib.Core.Path.{◌≡◌, sym, ap, ◌∙◌}
use native.Mathlib.Omega.{arith}
use Rattle.lines.proofs.Firsts.{some_found}
use Rattle.lines.proofs.Squares.{place_lt, length_square}
use Rattle.steps.specs.Steps.{step2}
use Rattle.munkres.proofs.StarLaws.{taken_none, taken_star, taken_skip}
use Rattle.munkres.proofs.step.step_2.Goals as goal
use Rattle.munkres.proofs.step.step_2.Goals.{in-Some, in_default}

pub loop-row-init : goal.loop-row-init
loop-row-init c = taken_none _ _ _ _ c.requires.1

pub overflow_add-marks : goal.overflow_add-marks
overflow_add-marks c = omega (arith, place_lt c.args.matrix.n _ _ c.loop-row-test.true (some_found _ _ _ (sym c.in-Some.ensures)).1)

pub bounds-marks-row : goal.bounds-marks-row
bounds-marks-row c = omega (arith, place_lt c.args.matrix.n _ _ c.loop-row-test.true (some_found _ _ _ (sym c.in-Some.ensures)).1)

pub cover-taken-requires : goal.cover-taken-requires
cover-taken-requires c = omega (arith, some_found _ _ _ (sym c.in-Some.ensures), c.requires.0.word.most)

pub loop-row-preserved : goal.loop-row-preserved
loop-row-preserved c =
    let l = c.loop-row in
    elim c.match-find_zero_in_row.branch [
      | in-Some w ↦ rw (w.marks-is, w.taken-is, w.cover-taken.ensures) (taken_star _ _ _ l.marks l.taken l.row l.invariant _ c.loop-row-test.true w.in-Some.ensures)
      | in_default w ↦ rw (w.marks-is, w.taken-is) (taken_skip _ _ _ l.marks l.taken l.row l.invariant w.in_default.ensures)
    ]

pub shape_of-marks : goal.shape_of-marks
shape_of-marks c = rw (c.requires.1, length_square) c.loop-row.invariant.size

pub returns : goal.returns
returns c =
    let l = c.loop-row in
    let e : l.row ≡ c.args.matrix.n = omega arith in
    l.invariant.made ∙ ap (step2 _ _ _ _) e
