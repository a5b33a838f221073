-- `choose_columns` gives each row the column of its star, and the total of their costs.
use mathlib.Core.Path.{◌≡◌, refl, sym, ap, ◌∙◌}
use native.Mathlib.Omega.{arith}
use Rattle.lines.specs.Sum.{sumℤ}
use Rattle.lines.proofs.Bounds.{cells_fit}
use Rattle.lines.proofs.Firsts.{some_found, none_found}
use Rattle.lines.proofs.Squares.{place_lt}
use Rattle.lines.proofs.Loops.{passed_none, passed_store, filled_all}
use Rattle.steps.specs.Lent.{cost_at}
use Rattle.answers.proofs.Sums.{added, total_table}
use Rattle.answers.proofs.choose_columns.Goals as goal
use Rattle.answers.proofs.choose_columns.Goals.{in-Some, in_default}

pub loop-row-init : goal.loop-row-init
unfolding sumℤ
loop-row-init c = (passed_none 0 _ _, refl)

pub overflow_cast-columns : goal.overflow_cast-columns
overflow_cast-columns c = omega (arith, some_found _ _ _ (sym c.in-Some.ensures), c.requires.most)

pub overflow_add-row : goal.overflow_add-row
overflow_add-row c = omega (arith, place_lt c.args.matrix.n _ _ c.loop-row-test.true (some_found _ _ _ (sym c.in-Some.ensures)).1, cells_fit c.requires.most)

pub offset_bounds-matrix-row : goal.offset_bounds-matrix-row
offset_bounds-matrix-row c = omega (arith, place_lt c.args.matrix.n _ _ c.loop-row-test.true (some_found _ _ _ (sym c.in-Some.ensures)).1, cells_fit c.requires.most)

pub bounds-matrix-row : goal.bounds-matrix-row
bounds-matrix-row c = omega (arith, place_lt c.args.matrix.n _ _ c.loop-row-test.true (some_found _ _ _ (sym c.in-Some.ensures)).1, c.requires.costs_square)

pub overflow_add-sum : goal.overflow_add-sum
unfolding cost_at
overflow_add-sum c =
    let l = c.loop-row in
    let new = ap (cost_at c.args.matrix.n c.args.matrix.costs.now l.row) (sym (some_found _ _ _ (sym c.in-Some.ensures)).0) in
    rw c.from-sum.ensures (added _ _ l.row _ l.invariant.1 new (omega arith) (λ i h. (c.requires.stars i (omega arith)).1)).fits

pub loop-row-preserved : goal.loop-row-preserved
unfolding cost_at
loop-row-preserved c =
    let l = c.loop-row in
    elim c.match-find_first_star_in_row.branch [
      | in-Some w ↦
          let star = some_found _ _ _ (sym w.in-Some.ensures) in
          let new = ap (cost_at c.args.matrix.n c.args.matrix.costs.now l.row) (sym star.0) in (
            rw w.columns-is (passed_store 0 _ _ l.columns l.row _ (omega (arith, l.invariant.0.long)) (sym star.0) l.invariant.0),
            w.sum-is ∙ rw w.from-sum.ensures (added _ _ l.row _ l.invariant.1 new (omega arith) (λ i h. (c.requires.stars i (omega arith)).1)).again,
          )
      | in_default w ↦ absurd (omega (arith, none_found _ _ (sym w.in_default.ensures), (c.requires.stars l.row (omega arith)).0))
    ]

pub returns : goal.returns
returns c =
    let l = c.loop-row in
    let e : l.row ≡ c.args.matrix.n = omega arith in
    (filled_all 0 _ _ l.columns _ l.row (l.invariant.0.long ∙ c.requires.lines) (omega arith) l.invariant.0, l.invariant.1 ∙ ap (sumℤ _) e ∙ sym (total_table _ _ _))
