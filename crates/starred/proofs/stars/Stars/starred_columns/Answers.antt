-- `Stars::starred_columns` gathers the columns that have a star.
use mathlib.Core.Path.{refl, ◌∙◌}
use mathlib.Core.Bool.{Bool}
use Prim.Native.Nat.{ℕ}
use borrow.Author.Tests.{lt-ltb, le-ltb}
use lib.Dec.{ltb}
use lib.ListN.{get_or}
use Rattle.lines.specs.Sets.{those}
use Rattle.lines.proofs.Loops.{those_with, those_skip}
use Rattle.starred.proofs.stars.Stars.starred_columns.Goals as goal
use Rattle.starred.proofs.stars.Stars.starred_columns.Goals.{then-self-column, else-self-column}

pub loop-column-init : goal.loop-column-init
unfolding those
loop-column-init c = refl

pub loop-column-preserved : goal.loop-column-preserved
loop-column-preserved c =
    let a = c.args in
    let l = c.loop-column in
    let test : ℕ → Bool = λ k. ltb (get_or a.self.now.owner k 0) a.n in
    elim c.if-self-column.branch [
      | then-self-column w ↦ w.columns-is ∙ w.cover-columns.ensures ∙ rw (l.invariant, those_with test l.column (lt-ltb _ _ w.if-self-column.true))
      | else-self-column w ↦ w.columns-is ∙ rw (l.invariant, those_skip test l.column (le-ltb _ _ w.if-self-column.false))
    ]
