-- `path::toggle_path` meets its contract: after k turns the first k places are flipped.
use mathlib.Core.Path.{◌≡◌}
use Prim.Native.Nat.{◌*◌}
use lib.ListN.{length, take}
use Rattle.steps.specs.Steps.{flip}
use Rattle.matrices.proofs.path.toggle_path.Given as goal

abbrev pub invariant-loop-k : goal.invariant-loop-k
invariant-loop-k l = (l.marks ≡ flip l.n l.initial.marks (take l.k l.path)) × (length l.marks ≡ l.n * l.n)
