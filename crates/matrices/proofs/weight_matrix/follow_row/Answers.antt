-- `weight_matrix::follow_row` meets its contract: the row's columns so far are done (`RowPassed`).
use borrow.Author.Rules.{rules}
use mathlib.Core.Path.{◌≡◌, refl, ◌∙◌}
use mathlib.Core.Bool.{Bool, true, false, not, cond}
use mathlib.Core.List.{List}
use Prim.Native.Nat.{ℕ, ◌+◌, ◌*◌}
use native.Mathlib.Omega.{arith}
use lib.IntN.{ℤ, pos}
use lib.ListN.{get_or}
use mir.Syntax.{w64}
use mir.Val.{SFits}
use mir.Facts.{to_z-of_z}
use Rattle.lines.proofs.Tests.{cond_ind}
use Rattle.lines.proofs.Rows.{row_none, row_store, row_keep, row_next, row_all}
use Rattle.lines.proofs.Walks.{Passes, walk_begin, walk_turn, walk_end, alike_lt, alike, unlike}
use Rattle.steps.specs.Lent.{allows}
use Rattle.steps.specs.Steps.{follow}
use Rattle.lines.proofs.Bounds.{row_end}
use Rattle.steps.proofs.Masks.{allows_is}
use Rattle.matrices.proofs.Flags.{product_is, follow_flag}
use Rattle.matrices.proofs.weight_matrix.follow_row.Invariants.{Alike, Kept}
use Rattle.matrices.proofs.weight_matrix.follow_row.Goals as goal

-- the other columns' values stay
stays : (ok covered : Bool) (z w : ℤ) → cond ok (follow z covered (not covered) w) w ≡ w
unfolding follow
stays false covered z w = refl
stays true true z w = refl
stays true false z w = refl

others : (n : ℕ) (mask : List ℕ) (columns row : ℕ) (covered : Bool) (change : ℤ) (before after : List ℤ)
    → Passes n (Alike n columns covered) (Kept n mask columns row covered change before after)
others n mask columns row covered change before after k h e =
    row_keep (pos 0) n row _ before after k h
    (rw (unlike n columns covered k h e) (stays (allows n mask row k) covered change (get_or after (row * n + k) (pos 0))))

pub loop-column-init : goal.loop-column-init
loop-column-init c =
    let a = c.args in (
      row_end _ _ c.requires.below,
      rw (c.into_iter-column-iterator.ensures.into_iter_gives, c.members-column-items.ensures, c.lines_alike.ensures)
          (walk_begin (alike_lt a.matrix.n a.columns a.covered) (row_none _ _ _ _ _ c.requires.below)
          (others a.matrix.n a.matrix.mask.now a.columns a.row a.covered _ _ _)),
    )

pub overflow_add-place : goal.overflow_add-place
overflow_add-place c =
    let m = walk_turn c.requires.grid.word.most c.in-Some.ensures.steps c.loop-column.invariant.1 in
    let h = m.below in search rules

pub bounds-mask-place : goal.bounds-mask-place
bounds-mask-place c =
    let m = walk_turn c.requires.grid.word.most c.in-Some.ensures.steps c.loop-column.invariant.1 in
    let h = m.below in search rules

pub offset_bounds-working-place : goal.offset_bounds-working-place
offset_bounds-working-place c =
    let m = walk_turn c.requires.grid.word.most c.in-Some.ensures.steps c.loop-column.invariant.1 in
    let h = m.below in search rules

pub slice_copy_out-followed_value : goal.slice_copy_out-followed_value
slice_copy_out-followed_value c =
    let m = walk_turn c.requires.grid.word.most c.in-Some.ensures.steps c.loop-column.invariant.1 in
    let h = m.below in search rules

pub followed_value-requires : goal.followed_value-requires
followed_value-requires c =
    let m = walk_turn c.requires.grid.word.most c.in-Some.ensures.steps c.loop-column.invariant.1 in
    let a = c.args in
    let j = c.in-Some.column in
    let h = m.below in
    let f = c.loop-column.invariant.0 in
    let x = get_or c.loop-column.working (a.row * a.matrix.n + j) (pos 0) in
    let g : SFits w64 x = search rules in
    let ok = allows_is a.matrix.n a.matrix.mask.now a.row j (omega arith) in
    rw (c.from.ensures, product_is a.change c.ranges.change _ (c.requires.flags (a.row * a.matrix.n + j)), to_z-of_z g, follow_flag, ← ok)
    (cond_ind (SFits w64) (allows a.matrix.n a.matrix.mask.now a.row j) (follow a.change a.covered a.covered x) x
    (λ y. rw (row_next _ _ _ _ _ _ _ m.kept) (rw (alike a.matrix.n a.columns a.covered j h m.member) at (c.requires.values j h y)))
    (λ y. g))

pub offset_bounds-working-place-in-loop-column : goal.offset_bounds-working-place-in-loop-column
offset_bounds-working-place-in-loop-column c =
    let m = walk_turn c.requires.grid.word.most c.in-Some.ensures.steps c.loop-column.invariant.1 in
    let h = m.below in search rules

pub bounds-working-place : goal.bounds-working-place
bounds-working-place c =
    let m = walk_turn c.requires.grid.word.most c.in-Some.ensures.steps c.loop-column.invariant.1 in
    let h = m.below in search rules

pub loop-column-preserved : goal.loop-column-preserved
loop-column-preserved c =
    let m = walk_turn c.requires.grid.word.most c.in-Some.ensures.steps c.loop-column.invariant.1 in
    let a = c.args in
    let j = c.in-Some.column in
    let h = m.below in
    let f = c.loop-column.invariant.0 in
    let x = get_or c.loop-column.working (a.row * a.matrix.n + j) (pos 0) in
    let g : SFits w64 x = search rules in
    let r = c.followed_value in
    let r_fits : SFits w64 r.result = search rules in (
      f,
      m.on _
          (row_store _ _ _ _ _ _ j _ h (omega arith)
          (to_z-of_z r_fits ∙ r.ensures
          ∙ rw (
            c.from.ensures,
            product_is a.change c.ranges.change _ (c.requires.flags (a.row * a.matrix.n + j)),
            to_z-of_z g,
            follow_flag,
            ← allows_is a.matrix.n a.matrix.mask.now a.row j (omega arith),
            alike a.matrix.n a.columns a.covered j h m.member,
            to_z-of_z c.ranges.change,
          ))
          m.kept)
          (others a.matrix.n a.matrix.mask.now a.columns a.row a.covered _ _ _),
    )

pub returns : goal.returns
returns c =
    let done = walk_end c.in-None.ensures.steps.0 c.loop-column.invariant.1 in
    rw (to_z-of_z c.ranges.change) at (row_all _ _ _ _ _ _ _ c.requires.below (omega arith) done)
