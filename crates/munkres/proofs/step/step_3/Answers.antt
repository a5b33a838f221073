-- `step_3` gives the definition's run.
use mathlib.Core.Path.{sym, ◌∙◌}
use borrow.Author.Tests.{eq-eqb, ne_eqb}
use native.Mathlib.Omega.{arith}
use Rattle.lines.proofs.Firsts.{some_found}
use Rattle.ground.specs.View.{view}
use Rattle.munkres.proofs.StarLaws.{gathered_none, gathered_few, gathered_star, gathered_skip, gathered_all}
use Rattle.munkres.proofs.step.step_3.Goals as goal
use Rattle.munkres.proofs.step.step_3.Goals.{in-Some, in_default, then-stars-n, else-stars-n}

pub loop-row-init : goal.loop-row-init
loop-row-init c = gathered_none _ _

pub cover-columns-requires : goal.cover-columns-requires
cover-columns-requires c = omega (arith, some_found _ _ _ (sym c.in-Some.ensures), c.requires.word.most)

pub overflow_add-stars : goal.overflow_add-stars
overflow_add-stars c = omega (arith, gathered_few c.loop-row.invariant)

pub loop-row-preserved : goal.loop-row-preserved
loop-row-preserved c =
    let l = c.loop-row in
    let one = c.requires.one_star in
    let h = c.loop-row-test.true in
    elim c.match-find_first_star_in_row.branch [
      | in-Some w ↦ rw (w.columns-is, w.stars-is, w.cover-columns.ensures) (gathered_star _ _ one l.columns l.stars l.row l.invariant h _ w.in-Some.ensures)
      | in_default w ↦ rw (w.columns-is, w.stars-is) (gathered_skip _ _ one l.columns l.stars l.row l.invariant h w.in_default.ensures)
    ]

pub returns : goal.returns
returns c =
    let l = c.loop-row in
    let a = c.args in
    let made = gathered_all a.n _ l.columns l.stars l.row l.invariant (omega arith) (view a.run) in
    c.crossing.ensures ∙ elim c.if-stars-n.branch [
      | then-stars-n w ↦ rw w.next-is (rw (eq-eqb l.stars a.n w.if-stars-n.true) at made)
      | else-stars-n w ↦ rw w.next-is (rw (ne_eqb l.stars a.n w.if-stars-n.false) at made)
    ]
