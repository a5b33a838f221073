-- `put_event_words` meets its contract: after so many events their words are put.
use Rattle.text.specs.Puts.{Puts}
use Rattle.entries.specs.Lines.{each_line}
use Rattle.shortage.specs.Block.{named, event_word}
use Rattle.shortage.proofs.events.put_event_words.Given as goal

abbrev pub invariant-loop-event : goal.invariant-loop-event
invariant-loop-event l = Puts l.initial.text (each_line (λ event. event_word (named l.events.set l.events.inside event) event) l.event) l.text
