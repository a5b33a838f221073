-- `keys::less_prices` meets its contract.
use Rattle.keyed.proofs.KeyBits.{left_is}
use Rattle.keyed.proofs.keys.less_prices.Goals as goal

pub returns : goal.returns
returns c = left_is c.args.entry c.args.row_price c.args.price c.ranges.entry c.ranges.row_price c.ranges.price c.requires.entry_within c.requires.row_within c.requires.price_within
