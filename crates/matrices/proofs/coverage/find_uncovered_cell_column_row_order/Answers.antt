-- `coverage::find_uncovered_cell_column_row_order` meets its contract: each column that the walk passed is covered, or has no uncovered zero.
use native.Mathlib.Omega.{arith}
use borrow.Author.Rules.{rules}
use Rattle.lines.proofs.Loops.{missed_none, missed_more}
use Rattle.lines.proofs.Sets.{rest_lt}
use Rattle.lines.proofs.Walks.{walk_begin, walk_turn, walk_end, lacked, not_lacked}
use Rattle.matrices.proofs.Zeros.{open_none, covered_column, found_at, none_at}
use Rattle.matrices.proofs.coverage.find_uncovered_cell_column_row_order.Goals as goal

pub loop-column-init : goal.loop-column-init
loop-column-init c =
    let a = c.args in
    rw (c.into_iter-column-iterator.ensures.into_iter_gives, c.members-column-items.ensures, c.uncovered_lines.ensures)
    (walk_begin (rest_lt a.matrix.n a.columns) missed_none (λ k h e. missed_more (covered_column _ _ _ _ _ k (not_lacked _ _ k h e))))

pub find_zero_in_column-requires : goal.find_zero_in_column-requires
find_zero_in_column-requires c =
    let m = walk_turn c.requires.word.most c.in-Some.ensures.steps c.loop-column.invariant in
    let h = m.below in search rules

pub returns-in-Some-find_zero_in_column : goal.returns-in-Some-find_zero_in_column
returns-in-Some-find_zero_in_column c =
    let m = walk_turn c.requires.word.most c.in-Some.ensures.steps c.loop-column.invariant in
    found_at _ _ _ _ _ m.below (lacked _ _ _ m.below m.member) c.in-Some-find_zero_in_column.ensures m.kept

pub loop-column-preserved : goal.loop-column-preserved
loop-column-preserved c =
    let m = walk_turn c.requires.word.most c.in-Some.ensures.steps c.loop-column.invariant in
    let none = open_none _ _ _ _ _ _ (lacked _ _ _ m.below m.member) c.in_default.ensures in
    m.on _
    (missed_more none m.kept)
    (λ k h e. missed_more (covered_column _ _ _ _ _ k (not_lacked _ _ k h e)))

pub returns : goal.returns
returns c = none_at _ _ _ _ _ (omega arith) (walk_end c.in-None.ensures.steps.0 c.loop-column.invariant)
