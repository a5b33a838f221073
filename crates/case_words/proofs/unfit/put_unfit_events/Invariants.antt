-- `put_unfit_events` meets its contract: after so many events their lines are put.
use Rattle.text.specs.Puts.{Puts}
use Rattle.entries.specs.Lines.{each_line}
use Rattle.case_words.specs.Unfit.{unfit_event, event_fits}
use Rattle.case_words.proofs.unfit.put_unfit_events.Given as goal

abbrev pub invariant-loop-event : goal.invariant-loop-event
invariant-loop-event l = Puts l.initial.text (each_line (λ j. unfit_event (event_fits l.solved.n l.solved.mask j) j) l.event) l.text
