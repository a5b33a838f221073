-- `put` of a `u64` meets its contract: the fewest digits are `decimal`.
use Rattle.text.proofs.NumberLaws.{digits_decimal}
use Rattle.text.proofs.number.U64Number.put.Goals as goal

pub returns : goal.returns
returns c =
    let d = c.decimal-count.ensures in
    rw (d.digits, digits_decimal _ _ d.len) at c.put.ensures
