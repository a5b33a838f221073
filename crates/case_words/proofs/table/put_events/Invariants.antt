-- `put_events` meets its contract: after so many events their lines are put.
use lib.ListN.{get_or}
use Rattle.text.specs.Puts.{Puts}
use Rattle.entries.specs.Lines.{each_line}
use Rattle.case_words.specs.Case.{event_line}
use Rattle.case_words.proofs.table.put_events.Given as goal

abbrev pub invariant-loop-event : goal.invariant-loop-event
invariant-loop-event l = Puts l.initial.text (each_line (λ i. event_line i (get_or l.areas i 0) (get_or l.clocks i 0)) l.event) l.text
