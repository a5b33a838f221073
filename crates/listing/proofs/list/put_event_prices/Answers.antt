-- `put_event_prices` meets its contract: after so many events their lines are put.
use mathlib.Core.Path.{◌≡◌}
use native.Mathlib.Omega.{arith}
use lib.IntN.{pos}
use lib.ListN.{get_or}
use mir.Facts.{to_z-of_z}
use mir.Syntax.{w64}
use Rattle.lines.proofs.Wide.{back}
use Rattle.text.specs.Ascii.{ascii}
use Rattle.text.proofs.PutLaws.{◌▸◌, puts_none}
use Rattle.entries.specs.Lines.{each_line}
use Rattle.entries.proofs.ListLaws.{puts_line}
use Rattle.listing.specs.List.{event_price_lines}
use Rattle.listing.proofs.list.put_event_prices.Goals as goal

pub loop-event-init : goal.loop-event-init
unfolding each_line
loop-event-init c = puts_none _

pub loop-event-preserved : goal.loop-event-preserved
loop-event-preserved c =
    let price = back w64 (get_or c.args.solved.now.column_prices c.loop-event.event (pos 0)) (omega arith) in
    puts_line _ c.loop-event.event c.loop-event.invariant (rw price at c.put_price.ensures)

pub returns : goal.returns
unfolding event_price_lines ascii
returns c =
    let all : c.loop-event.event ≡ c.args.solved.now.n = omega arith in
    rw (all, to_z-of_z c.ranges.sum) at (c.put.ensures ▸ c.loop-event.invariant ▸ c.put_price_sum.ensures)
