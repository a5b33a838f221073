-- `put_right` meets its contract: blanks, then the number.
use Rattle.text.specs.Numbers.{right}
use Rattle.text.proofs.PutLaws.{◌▸◌}
use Rattle.text.proofs.Text.put_right.Goals as goal

pub returns : goal.returns
unfolding right
returns g c = rw (right, ← c.length.ensures, ← c.saturating_sub.ensures) (c.put_blanks.ensures ▸ c.put.ensures)
