-- `keys::fill` meets its contract: the rows so far are in the table (`Filling`).
use mathlib.Core.Path.{◌≡◌}
use Prim.Native.Nat.{◌*◌}
use lib.ListN.{length}
use Rattle.steps.specs.Lent.{allows, cost_at}
use Rattle.keyed.proofs.Fills.{Filling}
use Rattle.keyed.proofs.keys.fill.Given as goal

abbrev pub invariant-loop-row : goal.invariant-loop-row
invariant-loop-row l =
    let m = l.matrix in
    (length l.keys ≡ m.n * m.n) × (length l.cheapest ≡ 64) × Filling m.n (allows m.n m.mask.now) (cost_at m.n m.costs.now) l.keys l.cheapest l.row
