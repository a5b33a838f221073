-- `costs_of` meets its contract: each turn makes one cost (`Passed`).
use Rattle.std.proofs.Common.{pos, arith, rules, ap, ◌∙◌}
use lib.ListN.{length-replicate}
use mir.Facts.{to_z-of_z}
use mir.Syntax.{w32, w64}
use Rattle.lines.proofs.Wide.{back}
use Rattle.lines.proofs.Loops.{passed_none, passed_store}
use Rattle.calls.specs.Numbers.{cost_of}
use Rattle.calls.proofs.numbers.costs_of.Goals as goal

pub loop-i-init : goal.loop-i-init
loop-i-init c = passed_none _ _ _

pub loop-i-preserved : goal.loop-i-preserved
loop-i-preserved c =
    let l = c.loop-i in
    passed_store _ _ _ l.costs l.i _ (omega (arith, l.invariant.long, length-replicate 4225 (pos 0)))
    (back w32 _ c.cost_of.type_inv ∙ c.cost_of.ensures ∙ ap cost_of (to_z-of_z {w = w64} (search rules))) l.invariant

pub returns-clause-lent : goal.returns-clause-lent
returns-clause-lent c = λ k h. c.loop-i.invariant.done k (omega (arith, h))
