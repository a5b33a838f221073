-- `Stars::count_stars` counts the rows that have a star.
use native.Mathlib.Omega.{arith}
use Prim.Native.Nat.{◌≤◌}
use lib.Dec.{ltb}
use lib.ListN.{length}
use Rattle.starred.proofs.Counted.{count_taken}
use borrow.Author.Rules.{rules}
use Rattle.starred.proofs.stars.Stars.count_stars.Goals as goal

pub returns : goal.returns
returns c =
    let long : c.args.n ≤ length c.args.self.now.star = omega (arith, c.requires) in
    let e = count_taken (λ x. ltb x c.args.n) c.args.self.now.star c.args.n long in
    search rules
