-- `put_unfit` meets its contract, piece after piece.
use Rattle.text.proofs.PutLaws.{◌▸◌}
use Rattle.case_words.specs.Unfit.{unfit}
use Rattle.case_words.proofs.unfit.put_unfit.Goals as goal

pub returns : goal.returns
unfolding unfit
returns c = c.put_unfit_rows.ensures ▸ c.put_unfit_events.ensures
