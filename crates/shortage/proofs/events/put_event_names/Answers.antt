-- `put_event_names` meets its contract, piece after piece.
use Rattle.text.proofs.PutLaws.{◌▸◌}
use Rattle.shortage.specs.Block.{event_names}
use Rattle.shortage.proofs.events.put_event_names.Goals as goal

pub returns : goal.returns
unfolding event_names
returns c = c.put_event_count.ensures ▸ c.put_event_words.ensures
