-- `put_block_rows` meets its contract: after so many rows their lines are put.
use mathlib.Core.Path.{◌≡◌}
use native.Mathlib.Omega.{arith}
use Rattle.text.specs.Ascii.{ascii}
use Rattle.text.proofs.PutLaws.{◌▸◌, puts_none}
use Rattle.entries.specs.Lines.{each_line}
use Rattle.entries.proofs.ListLaws.{puts_line}
use Rattle.shortage.specs.Block.{block_rows}
use Rattle.shortage.proofs.block.put_block_rows.Goals as goal

pub loop-row-init : goal.loop-row-init
unfolding each_line
loop-row-init c = puts_none _

pub loop-row-preserved : goal.loop-row-preserved
loop-row-preserved c = puts_line _ c.loop-row.row c.loop-row.invariant c.put_block_row.ensures

pub returns : goal.returns
unfolding block_rows ascii
returns c =
    let all : c.loop-row.row ≡ c.args.solved.now.n = omega arith in
    rw all at (c.put.ensures ▸ c.loop-row.invariant)
