-- `put_unfit_events` meets its contract: after so many events their lines are put.
use mathlib.Core.Path.{◌≡◌}
use native.Mathlib.Omega.{arith}
use Rattle.text.proofs.PutLaws.{puts_none}
use Rattle.entries.specs.Lines.{each_line}
use Rattle.entries.proofs.ListLaws.{puts_line}
use Rattle.case_words.specs.Unfit.{may_pair, event_fits, unfit_events}
use Rattle.case_words.proofs.Anys.{any_listed}
use Rattle.case_words.proofs.unfit.put_unfit_events.Goals as goal

pub loop-event-init : goal.loop-event-init
unfolding each_line
loop-event-init c = puts_none _

pub loop-event-preserved : goal.loop-event-preserved
unfolding event_fits
loop-event-preserved c =
    let s = c.args.solved.now in
    let j = c.loop-event.event in
    puts_line _ j c.loop-event.invariant (rw (c.event_fits.ensures, any_listed (λ i. may_pair s.n s.mask i j) s.n) at c.put_unfit_event.ensures)

pub returns : goal.returns
unfolding unfit_events
returns c =
    let all : c.loop-event.event ≡ c.args.solved.now.n = omega arith in
    rw all at (c.loop-event.invariant)
