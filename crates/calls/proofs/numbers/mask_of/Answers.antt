-- `mask_of` meets its contract: each turn makes one mask byte (`Passed`).
use Rattle.std.proofs.Common.{ℕ, arith, rules, ap, ◌∙◌}
use lib.ListN.{length-replicate}
use mir.Facts.{to_z-of_z}
use mir.Syntax.{w64}
use Rattle.lines.proofs.Loops.{passed_none, passed_store}
use Rattle.calls.specs.Numbers.{byte_of}
use Rattle.calls.proofs.numbers.mask_of.Goals as goal

pub loop-i-init : goal.loop-i-init
loop-i-init c = passed_none _ _ _

pub loop-i-preserved : goal.loop-i-preserved
loop-i-preserved c =
    let l = c.loop-i in
    passed_store _ _ _ l.mask l.i _ (omega (arith, l.invariant.long, length-replicate {A = ℕ} 4225 0))
    (c.byte_of.ensures ∙ ap byte_of (to_z-of_z {w = w64} (search rules))) l.invariant

pub returns-clause-lent : goal.returns-clause-lent
returns-clause-lent c = λ k h. c.loop-i.invariant.done k (omega (arith, h))
