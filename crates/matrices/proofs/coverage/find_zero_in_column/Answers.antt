-- `coverage::find_zero_in_column` meets its contract: each row that the walk passed is covered, or has no zero in the column.
use mathlib.Core.Path.{sym, ◌∙◌}
use mathlib.Core.Bool.{and-false}
use native.Mathlib.Omega.{arith}
use Rattle.lines.proofs.Loops.{missed_none, missed_more, found_hit, found_miss}
use Rattle.lines.proofs.Sets.{rest_lt}
use Rattle.lines.proofs.Squares.{place_lt}
use Rattle.lines.proofs.Walks.{walk_begin, walk_turn, walk_end, lacked, not_lacked}
use Rattle.steps.specs.Lent.{allows}
use Rattle.steps.specs.Steps.{zero_at}
use Rattle.matrices.proofs.coverage.find_zero_in_column.Goals as goal

pub loop-row-init : goal.loop-row-init
loop-row-init c =
    let a = c.args in
    rw (c.into_iter-row-iterator.ensures.into_iter_gives, c.members-row-items.ensures, c.uncovered_lines.ensures) (walk_begin (rest_lt a.matrix.n a.rows) missed_none (λ k h e. missed_more (rw (not_lacked _ _ k h e))))

pub overflow_mul-row : goal.overflow_mul-row
overflow_mul-row c =
    let m = walk_turn c.requires.0.word.most c.in-Some.ensures.steps c.loop-row.invariant in
    omega (arith, place_lt c.args.matrix.n _ _ m.below c.requires.1, place_lt c.args.matrix.n _ _ c.requires.1 m.below)

pub overflow_add-row : goal.overflow_add-row
overflow_add-row c =
    let m = walk_turn c.requires.0.word.most c.in-Some.ensures.steps c.loop-row.invariant in
    omega (arith, place_lt c.args.matrix.n _ _ m.below c.requires.1, place_lt c.args.matrix.n _ _ c.requires.1 m.below)

pub is_element_zero-requires : goal.is_element_zero-requires
is_element_zero-requires c =
    let m = walk_turn c.requires.0.word.most c.in-Some.ensures.steps c.loop-row.invariant in
    omega (arith, place_lt c.args.matrix.n _ _ m.below c.requires.1, place_lt c.args.matrix.n _ _ c.requires.1 m.below)

pub returns-then-is_element_zero : goal.returns-then-is_element_zero
unfolding zero_at allows
returns-then-is_element_zero c =
    let m = walk_turn c.requires.0.word.most c.in-Some.ensures.steps c.loop-row.invariant in
    found_hit _ m.below (rw (lacked _ _ _ m.below m.member) (sym c.is_element_zero.ensures ∙ c.if-is_element_zero.true)) m.kept

pub loop-row-preserved : goal.loop-row-preserved
unfolding zero_at allows
loop-row-preserved c =
    let m = walk_turn c.requires.0.word.most c.in-Some.ensures.steps c.loop-row.invariant in
    m.on _
    (missed_more (rw (sym c.is_element_zero.ensures ∙ c.if-is_element_zero.false, and-false)) m.kept)
    (λ k h e. missed_more (rw (not_lacked _ _ k h e)))

pub returns : goal.returns
returns c = found_miss _ (omega arith) (walk_end c.in-None.ensures.steps.0 c.loop-row.invariant)
