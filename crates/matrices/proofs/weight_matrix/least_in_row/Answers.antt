-- `weight_matrix::least_in_row` meets its contract: the least of what was handed over and of the columns so far.
use borrow.Author.Rules.{rules}
use mathlib.Core.Path.{◌≡◌, refl}
use mathlib.Core.Bool.{Bool, not, ◌&&◌}
use Prim.Native.Nat.{ℕ, ◌+◌, ◌*◌}
use native.Mathlib.Omega.{arith}
use lib.IntN.{ℤ, pos}
use lib.ListN.{get_or}
use Rattle.lines.specs.Sets.{has, rest}
use Rattle.lines.proofs.Sets.{rest_lt}
use Rattle.lines.proofs.Walks.{Passes, walk_begin, walk_turn, walk_end, lacked, not_lacked}
use Rattle.std.specs.Prelude.{Option}
use Rattle.ground.specs.Least.{least_from}
use Rattle.lines.proofs.Bounds.{row_end}
use Rattle.steps.proofs.Masks.{allows_yes, allows_no}
use mir.Facts.{to_z-of_z}
use mir.Syntax.{w64}
use mir.Val.{SFits}
use Rattle.ground.proofs.Values.{from_take, from_skip}
use Rattle.matrices.proofs.weight_matrix.least_in_row.Goals as goal

-- a covered column changes nothing
covered : (n columns : ℕ) (q : ℕ → Bool) (f : ℕ → ℤ) (best least : Option ℤ)
    → Passes n (rest n columns) (λ i. least ≡ least_from best (λ j. not (has columns j) && q j) f i)
covered n columns q f best least k h e p = from_skip best _ f k least least p (rw (not_lacked n columns k h e)) refl

pub overflow_mul-start : goal.overflow_mul-start
overflow_mul-start c = let f = row_end _ _ c.requires.1 in omega arith

pub loop-column-init : goal.loop-column-init
unfolding least_from
loop-column-init c = (
  row_end _ _ c.requires.1,
  rw (c.into_iter-column-iterator.ensures.into_iter_gives, c.members-column-items.ensures, c.uncovered_lines.ensures)
      (walk_begin (rest_lt c.args.matrix.n c.args.columns) refl (covered _ _ _ _ _ _)),
)

pub overflow_add-start : goal.overflow_add-start
overflow_add-start c =
    let m = walk_turn c.requires.0.word.most c.in-Some.ensures.steps c.loop-column.invariant.1 in
    let h = m.below in search rules

pub bounds-mask-start : goal.bounds-mask-start
bounds-mask-start c =
    let m = walk_turn c.requires.0.word.most c.in-Some.ensures.steps c.loop-column.invariant.1 in
    let h = m.below in search rules

pub overflow_add-start-then-mask-start-eq1 : goal.overflow_add-start-then-mask-start-eq1
overflow_add-start-then-mask-start-eq1 c =
    let m = walk_turn c.requires.0.word.most c.in-Some.ensures.steps c.loop-column.invariant.1 in
    let h = m.below in search rules

pub offset_bounds-working-start : goal.offset_bounds-working-start
offset_bounds-working-start c =
    let m = walk_turn c.requires.0.word.most c.in-Some.ensures.steps c.loop-column.invariant.1 in
    let h = m.below in search rules

pub bounds-working-start : goal.bounds-working-start
bounds-working-start c =
    let m = walk_turn c.requires.0.word.most c.in-Some.ensures.steps c.loop-column.invariant.1 in
    let h = m.below in search rules

pub loop-column-preserved-then-mask-start-eq1 : goal.loop-column-preserved-then-mask-start-eq1
loop-column-preserved-then-mask-start-eq1 c =
    let m = walk_turn c.requires.0.word.most c.in-Some.ensures.steps c.loop-column.invariant.1 in
    let a = c.args in
    let end = c.loop-column.invariant.0 in
    let h = m.below in
    let f : SFits w64 (get_or a.working.now (a.row * a.matrix.n + c.in-Some.column) (pos 0)) = search rules in (
      end,
      m.on _
          (from_take _ _ _ _ _ _ _ m.kept (rw (lacked _ _ _ h m.member) (allows_yes _ _ _ _ (omega arith) c.if-mask-start-eq1.true)) c.lesser-least.ensures (to_z-of_z f))
          (covered _ _ _ _ _ _),
    )

pub loop-column-preserved : goal.loop-column-preserved
loop-column-preserved c =
    let m = walk_turn c.requires.0.word.most c.in-Some.ensures.steps c.loop-column.invariant.1 in
    let end = c.loop-column.invariant.0 in
    let h = m.below in (
      end,
      m.on _
          (from_skip _ _ _ _ _ _ m.kept (rw (lacked _ _ _ h m.member) (allows_no _ _ _ _ (omega arith) c.if-mask-start-eq1.false)) refl)
          (covered _ _ _ _ _ _),
    )

pub returns : goal.returns
returns c = walk_end c.in-None.ensures.steps.0 c.loop-column.invariant.1
