-- `put_list` meets its contract, section after section.
use Rattle.text.proofs.PutLaws.{◌▸◌}
use Rattle.price_list.specs.Report.{list_text}
use Rattle.price_list.proofs.print.put_list.Goals as goal

pub returns : goal.returns
unfolding list_text
returns c = c.put_head.ensures ▸ c.put_case_above.ensures ▸ c.put_pairing.ensures ▸ c.put_least.ensures
