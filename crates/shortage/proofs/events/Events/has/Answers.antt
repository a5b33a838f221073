-- `has` meets its contract, by which are asked.
use mathlib.Core.Path.{◌≡◌, refl}
use mathlib.Core.Bool.{Bool, true, false, beq, not, cond}
use Rattle.lines.specs.Sets.{has}
use Rattle.shortage.specs.Block.{named}
use Rattle.shortage.proofs.events.Events.has.Goals as goal

same : (b inside : Bool) → beq b inside ≡ cond inside b (not b)
same true true = refl
same true false = refl
same false true = refl
same false false = refl

pub returns : goal.returns
unfolding named
returns c = rw c.has.ensures (same (has c.args.self.set c.args.event) c.args.self.inside)
