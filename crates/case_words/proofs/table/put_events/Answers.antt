-- `put_events` meets its contract: after so many events their lines are put.
use mathlib.Core.Path.{◌≡◌}
use native.Mathlib.Omega.{arith}
use Rattle.text.specs.Ascii.{ascii}
use Rattle.text.proofs.PutLaws.{◌▸◌, puts_none}
use Rattle.entries.specs.Lines.{each_line}
use Rattle.entries.proofs.ListLaws.{puts_line}
use Rattle.case_words.specs.Case.{event_lines}
use Rattle.case_words.proofs.table.put_events.Goals as goal

pub loop-event-init : goal.loop-event-init
unfolding each_line
loop-event-init c = puts_none _

pub loop-event-preserved : goal.loop-event-preserved
loop-event-preserved c = puts_line _ c.loop-event.event c.loop-event.invariant c.put_event.ensures

pub returns : goal.returns
unfolding event_lines ascii
returns c =
    let all : c.loop-event.event ≡ c.args.n = omega arith in
    rw all at (c.put.ensures ▸ c.loop-event.invariant)
