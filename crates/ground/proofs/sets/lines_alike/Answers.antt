-- `sets::lines_alike` meets its contract: the word cut to n digits, or what it lacks.
use mathlib.Core.Path.{ap, ◌∙◌}
use lib.Bits.{bit_and, and_mask}
use Rattle.lines.specs.Sets.{all}
use Rattle.ground.proofs.sets.lines_alike.Goals as goal

pub returns-then-covered : goal.returns-then-covered
unfolding all
returns-then-covered c =
    let a = c.args in
    rw c.if-covered.true (ap (bit_and a.lines) c.all_lines.ensures ∙ and_mask a.lines a.n)
