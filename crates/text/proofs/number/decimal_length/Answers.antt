-- `decimal_length` meets its contract: the fewest digits are `decimal`.
use Rattle.text.proofs.NumberLaws.{decimal_length}
use Rattle.text.proofs.number.decimal_length.Goals as goal

pub returns-clause-value : goal.returns-clause-value
returns-clause-value c = decimal_length _ _ c.decimal.ensures.len
