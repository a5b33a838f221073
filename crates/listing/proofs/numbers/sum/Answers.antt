-- `sum` meets its contract: after so many values, their sum.
use mathlib.Core.Path.{◌∙◌}
use native.Mathlib.Omega.{arith}
use Rattle.listing.proofs.SumLaws.{saturated, summed_none, summed_more}
use Rattle.listing.proofs.numbers.sum.Goals as goal

pub loop-i-init : goal.loop-i-init
loop-i-init c = summed_none _

pub loop-i-preserved : goal.loop-i-preserved
loop-i-preserved c =
    summed_more c.loop-i.invariant (record { sfits = omega arith }) (λ held. c.saturating_add-total.ensures ∙ saturated _ held) (record { sfits = omega arith })
