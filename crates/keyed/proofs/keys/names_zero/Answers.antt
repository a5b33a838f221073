-- `keys::names_zero` meets its contract, by its two tests.
use mathlib.Core.Path.{◌≡◌, sym, ap, ◌∙◌}
use mathlib.Core.Bool.{not}
use lib.IntN.{ℤ}
use lib.Signed.{le_z, lt_z, ◌≤ℤ◌}
use Rattle.lines.proofs.Tests.{T_true, by_cases}
use Rattle.lines.proofs.Signed.{signed}
use mir.Facts.{to_z-of_z}
use Rattle.ground.proofs.Wide.{back64}
use Rattle.keyed.specs.Keys.{value_of, names_zero}
use Rattle.keyed.proofs.keys.names_zero.Goals as goal

-- at most is not less, the other way round
at_most : (x y : ℤ) → le_z x y ≡ not (lt_z y x)
at_most x y = by_cases (lt_z y x)
    (λ f. rw f (by_cases (le_z x y) (λ e. let l : x ≤ℤ y = record { le = rw e tt } in absurd (omega signed)) (λ e. e)))
    (λ f. let l : x ≤ℤ y = omega signed in rw f (T_true (le_z x y) l.le))

pub returns-then-is_near : goal.returns-then-is_near
unfolding names_zero
returns-then-is_near c =
    let near = rw (to_z-of_z c.ranges.best) at (sym c.is_near.ensures ∙ c.if-is_near.true) in
    let value = back64 _ c.value_of.type_inv ∙ c.value_of.ensures ∙ ap (value_of 64) (to_z-of_z c.ranges.best) in
    rw (near, value, to_z-of_z c.ranges.risen) (at_most (value_of 64 c.args.best) c.args.risen)

pub returns-else-is_near : goal.returns-else-is_near
unfolding names_zero
returns-else-is_near c =
    let far = rw (to_z-of_z c.ranges.best) at (sym c.is_near.ensures ∙ c.if-is_near.false) in
    rw far c.if-is_near.false
