-- `Stars::starred_columns` gathers the columns that have a star.
use mathlib.Core.Path.{◌≡◌}
use lib.Dec.{ltb}
use lib.ListN.{get_or}
use Rattle.lines.specs.Sets.{those}
use Rattle.starred.proofs.stars.Stars.starred_columns.Given as goal

abbrev pub invariant-loop-column : goal.invariant-loop-column
invariant-loop-column l = l.columns ≡ those (λ j. ltb (get_or l.self.owner j 0) l.n) l.column
