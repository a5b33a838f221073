-- `put_event_prices` meets its contract: after so many events their lines are put.
use lib.IntN.{pos}
use lib.ListN.{get_or}
use Rattle.text.specs.Puts.{Puts}
use Rattle.entries.specs.Lines.{each_line, price_line}
use Rattle.listing.proofs.list.put_event_prices.Given as goal

abbrev pub invariant-loop-event : goal.invariant-loop-event
invariant-loop-event l = Puts l.initial.text (each_line (λ event. price_line event (get_or l.solved.column_prices event (pos 0))) l.event) l.text
