-- `decode` leaves the costs of the bytes in front.
use mathlib.Core.Path.{ap, ◌∙◌}
use native.Mathlib.Omega.{arith}
use lib.IntN.{pos}
use mir.Syntax.{w32}
use mir.Val.{to_z}
use mir.Facts.{to_z-of_z}
use Rattle.lines.proofs.Loops.{passed_store}
use Rattle.cost_bytes.specs.Bytes.{cost_of}
use Rattle.cost_bytes.proofs.ByteLaws.{four_bytes, signed_bits, filled_front}
use borrow.Author.Rules.{rules}
use Rattle.cost_bytes.proofs.decode.Goals as goal

pub loop-cell-preserved : goal.loop-cell-preserved
unfolding cost_of
loop-cell-preserved c =
    let l = c.loop-cell in
    let cost = c.from_le_bytes in
    let read = cost.ensures ∙ ap (to_z w32) (four_bytes _ _ _ _) ∙ signed_bits _ (search rules) in
    passed_store (pos 0) _ _ l.costs l.cell _ (search rules) (to_z-of_z {w = w32} {z = cost.result} (record { sfits = cost.type_inv }) ∙ read) l.invariant

pub returns : goal.returns
returns c = let l = c.loop-cell in filled_front (pos 0) _ _ l.costs _ l.cell (omega (arith, l.invariant.long)) (omega arith) l.invariant
