-- `weight_matrix::least_uncovered` meets its contract: the search over the places of the rows so far; a covered row adds nothing.
use borrow.Author.Rules.{rules}
use mathlib.Core.Path.{◌≡◌, refl}
use mathlib.Core.Bool.{Bool, ◌&&◌}
use Prim.Native.Nat.{ℕ}
use lib.IntN.{ℤ}
use Rattle.lines.specs.Sets.{rest}
use Rattle.lines.proofs.Sets.{rest_lt}
use Rattle.lines.proofs.Walks.{Passes, walk_begin, walk_turn, walk_end, lacked, not_lacked}
use Rattle.steps.specs.Steps.{uncovered}
use Rattle.std.specs.Prelude.{Option, None}
use Rattle.matrices.proofs.Rows.{rows_least, rows_least_none, row_searched, row_passed_over}
use Rattle.matrices.proofs.weight_matrix.least_uncovered.Goals as goal

-- a covered row changes nothing
covered : (n rows columns : ℕ) (ok : ℕ → ℕ → Bool) (f : ℕ → ℤ) (least : Option ℤ)
    → Passes n (rest n rows) (λ i. least ≡ rows_least None n (λ i j. uncovered rows columns i j && ok i j) f i)
unfolding uncovered
covered n rows columns ok f least k h e p = row_passed_over _ _ _ f k least least p refl (λ j l. rw (not_lacked n rows k h e))

pub loop-row-init : goal.loop-row-init
loop-row-init c =
    let a = c.args in
    rw (c.into_iter-row-iterator.ensures.into_iter_gives, c.members-row-items.ensures, c.uncovered_lines.ensures) (walk_begin (rest_lt a.matrix.n a.rows) (rows_least_none _ _ _ _) (covered _ _ _ _ _ _))

pub least_in_row-least-requires : goal.least_in_row-least-requires
least_in_row-least-requires c =
    let m = walk_turn c.requires.word.most c.in-Some.ensures.steps c.loop-row.invariant in
    let h = m.below in search rules

pub loop-row-preserved : goal.loop-row-preserved
unfolding uncovered
loop-row-preserved c =
    let m = walk_turn c.requires.word.most c.in-Some.ensures.steps c.loop-row.invariant in
    m.on _
    (row_searched _ _ _ _ _ _ _ _ m.kept c.least_in_row-least.ensures (λ j h. rw (lacked _ _ _ m.below m.member)))
    (covered _ _ _ _ _ _)

pub returns : goal.returns
unfolding rows_least
returns c = walk_end c.in-None.ensures.steps.0 c.loop-row.invariant
