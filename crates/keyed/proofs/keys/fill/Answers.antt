-- `keys::fill` meets its contract: the rows so far are in the table (`Filling`).
use mathlib.Core.Path.{◌≡◌}
use native.Mathlib.Omega.{arith}
use Rattle.keyed.proofs.Fills.{filled_all}
use Rattle.keyed.proofs.keys.fill.Goals as goal

pub returns : goal.returns
returns c =
    let l = c.loop-row in
    let e : l.row ≡ c.args.matrix.n = omega arith in
    let f = rw e at l.invariant.2 in
    (filled_all _ _ _ l.invariant.0 f, f.cheap)
