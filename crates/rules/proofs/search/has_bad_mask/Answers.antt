-- `has_bad_mask` meets its contract: after each turn `bad` says whether a cell before was.
use mathlib.Core.Path.{sym}
use Rattle.steps.proofs.Masks.{mask_is}
use Rattle.rules.proofs.JudgeLaws.{none_asked, asked_more}
use Rattle.rules.proofs.search.has_bad_mask.Goals as goal

pub loop-byte-init : goal.loop-byte-init
loop-byte-init c = none_asked _

pub loop-byte-preserved : goal.loop-byte-preserved
loop-byte-preserved c = asked_more _ _ c.loop-byte.invariant (sym (mask_is _ _ c.loop-byte-test.true))
