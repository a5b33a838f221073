-- `is_short` meets its contract: slices are equal where the definition has them one word.
use mathlib.Core.Path.{◌∙◌}
use Rattle.text.specs.Ascii.{ascii}
use Rattle.price_list.proofs.WordLaws.{compared}
use Rattle.price_list.proofs.word.is_short.Goals as goal

pub returns : goal.returns
unfolding ascii
returns c = rw c.as_slice.ensures at (c.eq.ensures ∙ compared c.args.word.now c.as_slice.result.now)
