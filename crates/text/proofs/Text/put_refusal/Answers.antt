-- `put_refusal` meets its contract, piece after piece.
use Rattle.text.specs.Numbers.{refusal}
use Rattle.text.proofs.PutLaws.{◌▸◌}
use Rattle.text.proofs.Text.put_refusal.Goals as goal

pub returns : goal.returns
unfolding refusal
returns c = c.put.ensures ▸ c.put_number.ensures ▸ c.put-2.ensures ▸ c.put_number-2.ensures ▸ c.put-3.ensures
