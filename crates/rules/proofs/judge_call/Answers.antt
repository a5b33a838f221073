-- `judge_call` meets its contract: above the limit it does not matter what the other buffers' lengths are.
use mathlib.Core.Path.{◌∙◌}
use borrow.Author.Tests.{le-ltb}
use Rattle.rules.proofs.JudgeLaws.{others_matter}
use Rattle.rules.proofs.judge_call.Goals as goal

pub returns : goal.returns
returns c = c.judge.ensures ∙ others_matter _ _ _ _ _ _ (λ h. c.has_room_for-others.ensures ∙ rw (le-ltb _ _ h))
