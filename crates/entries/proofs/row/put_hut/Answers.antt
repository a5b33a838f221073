-- `put_hut` meets its contract, piece after piece.
use Rattle.text.proofs.PutLaws.{◌▸◌}
use Rattle.entries.specs.Lines.{hut_line}
use Rattle.entries.proofs.row.put_hut.Goals as goal

pub returns : goal.returns
unfolding hut_line
returns c = c.put_right.ensures ▸ c.put_right-2.ensures ▸ c.put.ensures
