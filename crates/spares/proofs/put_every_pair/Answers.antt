-- `put_every_pair` meets its contract: after so many cells their lines are put.
use mathlib.Core.Path.{◌≡◌}
use Prim.Native.Nat.{◌*◌}
use native.Mathlib.Omega.{arith}
use Rattle.text.specs.Ascii.{ascii}
use Rattle.text.proofs.PutLaws.{◌▸◌, puts_none}
use Rattle.entries.specs.Lines.{each_line}
use Rattle.entries.proofs.ListLaws.{puts_line}
use Rattle.spares.specs.Spares.{every_pair}
use Rattle.spares.proofs.put_every_pair.Goals as goal

pub loop-place-init : goal.loop-place-init
unfolding each_line
loop-place-init c = puts_none _

pub loop-place-preserved : goal.loop-place-preserved
loop-place-preserved c = puts_line _ c.loop-place.place c.loop-place.invariant c.put_cell.ensures

pub returns : goal.returns
unfolding every_pair ascii
returns c =
    let n = c.args.solved.now.n in
    let all : c.loop-place.place ≡ n * n = omega arith in
    rw all at (c.put.ensures ▸ c.loop-place.invariant)
