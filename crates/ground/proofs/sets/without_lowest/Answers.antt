-- `sets::without_lowest` meets its contract: the word below it has every line but the lowest.
use mathlib.Core.Path.{ap, ◌∙◌}
use Rattle.lines.specs.Sets.{without}
use Rattle.lines.proofs.Bits.{lowest_is, lowest_cleared}
use Rattle.ground.proofs.sets.without_lowest.Goals as goal

pub returns : goal.returns
returns c = let s = c.args.lines in lowest_cleared 64 s c.ranges.lines.fits c.requires ∙ ap (without s) (lowest_is 64 s)
