-- `stopped` meets its contract: what the definition says of a refusal and of a row without allowed cells.
use mathlib.Core.Path.{ap}
use native.Mathlib.Omega.{arith}
use borrow.Author.Rules.{rules}
use Rattle.rules.specs.View.{view_stop}
use Rattle.answers.specs.Ends.{stop}
use Rattle.answers.proofs.stopped.Goals as goal

pub cover-requires : goal.cover-requires
cover-requires c = let d = c.requires _ (ap view_stop c.in-DeadRow.is) in omega (arith, d.0, d.1)

pub all_lines-requires : goal.all_lines-requires
all_lines-requires c = let d = c.requires _ (ap view_stop c.in-DeadRow.is) in record { some = omega (arith, d.0); most = d.1 }

pub returns-in-Refused : goal.returns-in-Refused
unfolding stop
returns-in-Refused c = search rules

pub returns-in-DeadRow : goal.returns-in-DeadRow
unfolding stop
returns-in-DeadRow c = search rules
