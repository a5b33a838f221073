-- `has_bad_mask` meets its contract: after each turn `bad` says whether a cell before was.
use mathlib.Core.Path.{◌≡◌}
use Rattle.lines.specs.First.{any}
use Rattle.steps.specs.Refusal.{bad_mask}
use Rattle.rules.proofs.search.has_bad_mask.Given as goal

abbrev pub invariant-loop-byte : goal.invariant-loop-byte
invariant-loop-byte l = l.bad ≡ any (bad_mask l.mask) l.byte-index
