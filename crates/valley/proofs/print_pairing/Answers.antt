-- `print_pairing` meets its contract: what is written lies in its buffer.
use Rattle.text.proofs.PutLaws.{holds_fits, holds_prefix}
use Rattle.valley.proofs.print_pairing.Goals as goal

pub slice_bounds-out-end : goal.slice_bounds-out-end
slice_bounds-out-end c = holds_fits (record { held = c.report-used.ensures.printed })

pub slice_bounds-write_all-end : goal.slice_bounds-write_all-end
slice_bounds-write_all-end c = holds_prefix (record { held = c.report-used.ensures.printed })
