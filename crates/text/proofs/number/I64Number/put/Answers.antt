-- `put` of an `i64` meets its contract, by the sign.
use Rattle.text.proofs.NumberLaws.{signed_below, signed_above}
use Rattle.text.proofs.PutLaws.{◌▸◌}
use Rattle.text.proofs.number.I64Number.put.Goals as goal
use Rattle.text.proofs.number.I64Number.put.Goals.{then-self-lt0, else-self-lt0}

pub returns : goal.returns
returns c =
    elim c.if-self-lt0.branch [
      | then-self-lt0 w ↦ rw (signed_below _ c.ranges.self _ c.unsigned_abs.ensures.value w.if-self-lt0.true) (w.put.ensures ▸ rw w.text-is at c.put-2.ensures)
      | else-self-lt0 w ↦ rw (signed_above _ c.ranges.self _ c.unsigned_abs.ensures.value w.if-self-lt0.false) (rw w.text-is at c.put-2.ensures)
    ]
