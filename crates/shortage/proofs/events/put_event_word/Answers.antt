-- `put_event_word` meets its contract, by whether the event is shown.
use Rattle.text.specs.Ascii.{ascii}
use Rattle.text.proofs.PutLaws.{◌▸◌, puts_none}
use Rattle.shortage.specs.Block.{event_word}
use Rattle.shortage.proofs.events.put_event_word.Goals as goal

pub returns-then-shown : goal.returns-then-shown
unfolding event_word ascii
returns-then-shown c = rw c.if-shown.true (c.put.ensures ▸ c.put_number.ensures)

pub returns-else-shown : goal.returns-else-shown
unfolding event_word ascii
returns-else-shown c = rw c.if-shown.false (puts_none _)
