-- `print_list` meets its contract: what is written lies in its buffer.
use Rattle.std.proofs.Common.{◌≡◌, ℕ, length, sym}
use Rattle.std.specs.Prelude.{replicate}
use Rattle.std.proofs.lemmas.List.{length-replicate}
use Rattle.text.proofs.PutLaws.{holds_fits, holds_prefix}
use Rattle.price_list.proofs.print_list.Goals as goal

-- so many zeros; stated of every n, since 524288 would be counted out one by one
zeros : (n : ℕ) → n ≡ length (replicate {A = ℕ} n 0)
zeros n = sym (length-replicate n 0)

pub slice_bounds-report-end-2 : goal.slice_bounds-report-end-2
slice_bounds-report-end-2 c = zeros 524288

pub slice_bounds-out-end : goal.slice_bounds-out-end
slice_bounds-out-end c = holds_fits (record { held = c.report-used.ensures.printed })

pub slice_bounds-write_all-end : goal.slice_bounds-write_all-end
slice_bounds-write_all-end c = holds_prefix (record { held = c.report-used.ensures.printed })
