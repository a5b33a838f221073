-- `put_block` meets its contract, section after section.
use Rattle.text.specs.Ascii.{ascii}
use Rattle.text.proofs.PutLaws.{◌▸◌}
use Rattle.price_list.specs.Report.{block_text}
use Rattle.price_list.proofs.print.put_block.Goals as goal

pub returns : goal.returns
unfolding block_text ascii
returns c = c.put_head.ensures ▸ c.put_case.ensures ▸ c.put.ensures ▸ c.put_unfit.ensures ▸ c.put_block.ensures
