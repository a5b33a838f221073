-- `put_event_words` meets its contract: after so many events their words are put.
use mathlib.Core.Path.{◌≡◌}
use native.Mathlib.Omega.{arith}
use Rattle.text.specs.Ascii.{ascii}
use Rattle.text.proofs.PutLaws.{◌▸◌, puts_none}
use Rattle.entries.specs.Lines.{each_line}
use Rattle.entries.proofs.ListLaws.{puts_line}
use Rattle.shortage.specs.Block.{event_words}
use Rattle.shortage.proofs.events.put_event_words.Goals as goal

pub loop-event-init : goal.loop-event-init
unfolding each_line
loop-event-init c = puts_none _

pub loop-event-preserved : goal.loop-event-preserved
loop-event-preserved c = puts_line _ c.loop-event.event c.loop-event.invariant (rw c.has.ensures at c.put_event_word.ensures)

pub returns : goal.returns
unfolding event_words ascii
returns c =
    let all : c.loop-event.event ≡ c.args.events.n = omega arith in
    rw all at (c.loop-event.invariant ▸ c.put.ensures)
