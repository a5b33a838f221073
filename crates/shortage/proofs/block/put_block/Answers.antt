-- `put_block` meets its contract, piece after piece.
use mathlib.Core.Path.{◌∙◌}
use Rattle.lines.specs.Sets.{has}
use Rattle.text.proofs.PutLaws.{◌▸◌}
use Rattle.shortage.specs.Block.{block}
use Rattle.shortage.proofs.Counts.{counted}
use Rattle.shortage.proofs.block.put_block.Goals as goal

pub returns : goal.returns
unfolding block
returns c =
    let n = c.args.solved.now.n in
    rw (c.count-event_count.ensures.value ∙ counted (has c.args.events) n, c.count-row_count.ensures.value ∙ counted (has c.args.rows) n)
    at (c.put_fragments.ensures ▸ c.put_left.ensures ▸ c.put_since.ensures ▸ c.put_end.ensures)
