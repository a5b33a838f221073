-- `is_out_of_range` meets its contract.
use mir.Facts.{to_z-of_z}
use Rattle.steps.specs.Refusal.{out_of_range}
use Rattle.rules.proofs.search.is_out_of_range.Goals as goal

pub returns-then-cost-ltminus1000000000 : goal.returns-then-cost-ltminus1000000000
unfolding out_of_range
returns-then-cost-ltminus1000000000 c = let t = to_z-of_z c.ranges.cost in rw (t, rw t at c.if-cost-ltminus1000000000.true)

pub returns-else-cost-ltminus1000000000 : goal.returns-else-cost-ltminus1000000000
unfolding out_of_range
returns-else-cost-ltminus1000000000 c = let t = to_z-of_z c.ranges.cost in rw (t, rw t at c.if-cost-ltminus1000000000.false)
