-- `stars::costs_price` tests a cell by its mask byte and its cost.
use mathlib.Core.Path.{sym, ap, ◌∙◌}
use borrow.Author.Tests.{eq-eqb}
use lib.IntN.{pos, ◌-ℤ◌}
use lib.ListN.{get_or}
use mir.Syntax.{w32}
use mir.Val.{SFits}
use Rattle.lines.proofs.Squares.{get_or_inside}
use Rattle.steps.specs.Steps.{is_zero}
use Rattle.ground.proofs.Wide.{back64}
use Rattle.starred.proofs.Differences.{widened, same_bits}
use borrow.Author.Rules.{rules}
use Rattle.starred.proofs.stars.costs_price.Goals as goal

pub returns-then-matrix-place-eq1 : goal.returns-then-matrix-place-eq1
returns-then-matrix-place-eq1 c =
    let m = c.args.matrix in
    let place = c.args.place in
    let price = c.args.price in
    let x = get_or m.costs.now place (pos 0) in
    let f : SFits w32 x = search rules in
    let e = widened x _ f.sfits c.from.type_inv c.from.ensures in
    rw (get_or_inside 1 0 m.mask.now place c.requires.mask_long, eq-eqb _ 1 c.if-matrix-place-eq1.true)
    (same_bits c.from.result price (record { sfits = c.from.type_inv }) c.ranges.price ∙ ap (λ y. is_zero (y -ℤ price)) (sym (back64 _ c.from.type_inv) ∙ e))
