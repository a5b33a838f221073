-- `decode` leaves the costs of the bytes in front. The loop's invariant: the cells before `cell` are done.
use lib.IntN.{pos}
use Rattle.lines.proofs.Loops.{Passed}
use Rattle.cost_bytes.specs.Bytes.{cost_of}
use Rattle.cost_bytes.proofs.decode.Given as goal

abbrev pub invariant-loop-cell : goal.invariant-loop-cell
invariant-loop-cell l = Passed (pos 0) (λ k x. cost_of l.bytes k) l.initial.costs l.costs l.cell
