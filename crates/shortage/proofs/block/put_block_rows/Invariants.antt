-- `put_block_rows` meets its contract: after so many rows their lines are put.
use lib.ListN.{get_or}
use Rattle.text.specs.Puts.{Puts}
use Rattle.entries.specs.Lines.{each_line}
use Rattle.shortage.specs.Block.{block_row}
use Rattle.shortage.proofs.block.put_block_rows.Given as goal

abbrev pub invariant-loop-row : goal.invariant-loop-row
invariant-loop-row l = Puts l.initial.text (each_line (λ row. block_row l.rows row (get_or l.solved.huts row 0)) l.row) l.text
