-- `find_dead_row` meets its contract: each row that the loop passed has an allowed cell.
use mathlib.Core.Path.{sym, ◌∙◌}
use Rattle.lines.proofs.Loops.{found_hit, found_miss}
use Rattle.rules.proofs.search.find_dead_row.Goals as goal

pub returns-then-is_dead_row : goal.returns-then-is_dead_row
returns-then-is_dead_row c = found_hit _ c.loop-row-test.true (sym c.is_dead_row.ensures ∙ c.if-is_dead_row.true) c.loop-row.invariant

pub returns : goal.returns
returns c = found_miss _ c.loop-row-test.false c.loop-row.invariant
