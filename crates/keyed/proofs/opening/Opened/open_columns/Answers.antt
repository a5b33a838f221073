-- `Opened::open_columns` gives row after row the key that it has in its cheapest column (`Chosen`).
use mathlib.Core.Path.{◌≡◌, ◌∙◌}
use native.Mathlib.Omega.{arith}
use Rattle.ground.proofs.Wide.{back64}
use Rattle.keyed.proofs.Cheapests.{chosen_more, chosen_opens}
use Rattle.keyed.proofs.opening.Opened.open_columns.Goals as goal

pub loop-row-preserved : goal.loop-row-preserved
loop-row-preserved c =
    chosen_more _ _ _ _ _ _ _ _ _ c.loop-row.invariant (omega (arith, c.loop-row.invariant.cheapest_same)) (omega (arith, c.loop-row.invariant.key_same)) c.cheapest_column-column.ensures
    (back64 _ c.key_at-here.type_inv ∙ c.key_at-here.ensures) (back64 _ c.min-best.type_inv ∙ c.min-best.ensures.value)

pub returns-clause-opens : goal.returns-clause-opens
returns-clause-opens c =
    let l = c.loop-row in
    let e : l.row ≡ c.args.priced.n = omega arith in
    chosen_opens _ _ _ _ _ (rw e at l.invariant)
