-- `put_pairs` meets its contract: after so many rows their lines are put.
use Rattle.text.specs.Puts.{Puts}
use Rattle.entries.specs.Lines.{each_line}
use Rattle.listing.specs.List.{pair_of}
use Rattle.listing.proofs.list.put_pairs.Given as goal

abbrev pub invariant-loop-row : goal.invariant-loop-row
invariant-loop-row l = Puts l.initial.text (each_line (pair_of l.solved.huts l.solved.n l.solved.costs l.solved.columns l.solved.row_prices l.solved.column_prices) l.row) l.text
