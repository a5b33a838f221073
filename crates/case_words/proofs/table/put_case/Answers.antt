-- `put_case` meets its contract, of what the file says.
use Rattle.text.proofs.PutLaws.{◌▸◌}
use Rattle.case_words.specs.Case.{case_lines}
use Rattle.case_words.proofs.table.put_case.Goals as goal

pub returns : goal.returns
unfolding case_lines
returns c =
    let said_rows = c.rows_of.ensures in
    let said_events = c.events_of.ensures in
    rw (c.huts_of.ensures, said_rows.0, said_rows.1, said_events.0, said_events.1) at (c.put_rows.ensures ▸ c.put_events.ensures)
