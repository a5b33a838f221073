-- `Stars::flip_path` walks the path and flips it (`Flipping`).
use mathlib.Core.Path.{◌≡◌}
use Rattle.starred.proofs.Flips.{Flipping}
use Rattle.starred.proofs.stars.Stars.flip_path.Given as goal

abbrev pub invariant-loop-met : goal.invariant-loop-met
invariant-loop-met l =
    Flipping l.n l.self.prime l.initial.self.star l.initial.self.owner l.row l.column l.self.star l.self.owner l.here l.there l._met × (l.self.prime ≡ l.initial.self.prime)
