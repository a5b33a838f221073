-- `find_bad_mask` meets its contract: no byte that the loop passed is above 1.
use mathlib.Core.Path.{sym, ◌∙◌}
use borrow.Author.Rules.{rules}
use Rattle.lines.proofs.Loops.{missed_more, found_hit, found_miss}
use Rattle.steps.proofs.Masks.{mask_bad, mask_good}
use Rattle.rules.proofs.JudgeLaws.{none_there}
use Rattle.rules.proofs.search.find_bad_mask.Goals as goal

pub returns-then-not-has_bad_mask : goal.returns-then-not-has_bad_mask
returns-then-not-has_bad_mask c = none_there _ _ (sym c.has_bad_mask.ensures ∙ c.if-not-has_bad_mask.true)

pub returns-then-byte-gt1 : goal.returns-then-byte-gt1
returns-then-byte-gt1 c = found_hit _ (search rules) (mask_bad _ _ (search rules) c.if-byte-gt1.true) c.loop-place.invariant

pub loop-place-preserved : goal.loop-place-preserved
loop-place-preserved c = missed_more (mask_good _ _ (search rules) c.if-byte-gt1.false) c.loop-place.invariant

pub returns : goal.returns
returns c = found_miss _ (search rules) c.loop-place.invariant
