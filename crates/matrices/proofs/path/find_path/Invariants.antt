-- `path::find_path` meets its contract: what is recorded and what is still to come are the path (`Walked`).
use Prim.Native.Nat.{◌-◌}
use lib.ListN.{length}
use Rattle.matrices.proofs.Walk.{Walked}
use Rattle.matrices.proofs.path.find_path.Given as goal

abbrev pub invariant-loop-star : goal.invariant-loop-star
invariant-loop-star l = Walked l.n l.marks l.row l.column l.path l.i l.j

abbrev pub decreases-loop-star : goal.decreases-loop-star
decreases-loop-star l = 127 - length l.path
