-- `weight_matrix::is_element_zero` meets its contract.
use Prim.Native.Nat.{◌<◌}
use borrow.Author.Rules.{rules}
use lib.IntN.{pos}
use lib.ListN.{get_or}
use mir.Syntax.{w64}
use mir.Val.{SFits}
use Rattle.lines.proofs.Squares.{get_or_inside}
use Rattle.matrices.proofs.Zeros.{zero_test}
use Rattle.matrices.proofs.weight_matrix.is_element_zero.Goals as goal

pub returns : goal.returns
returns c =
    let a = c.args in
    let f : SFits w64 (get_or a.working.now a.place (pos 0)) = search rules in
    let b : get_or a.mask.now a.place 0 < 256 = search rules in
    rw (c.blocked.ensures, get_or_inside 1 0 a.mask.now a.place c.requires.0) (zero_test _ _ f b)
