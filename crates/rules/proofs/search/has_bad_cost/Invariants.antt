-- `has_bad_cost` meets its contract: after each turn `bad` says whether a cell before was.
use mathlib.Core.Path.{◌≡◌}
use Rattle.lines.specs.First.{any}
use Rattle.steps.specs.Refusal.{bad_cost}
use Rattle.rules.proofs.search.has_bad_cost.Given as goal

abbrev pub invariant-loop-place : goal.invariant-loop-place
invariant-loop-place l = l.bad ≡ any (bad_cost l.costs l.mask) l.place
