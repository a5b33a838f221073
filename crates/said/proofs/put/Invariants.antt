-- `put` meets its contract: the places that the loop has passed are written, and the others as they were.
use Rattle.std.proofs.Common.{◌+◌, cond, ltb, get_or, length}
use Rattle.lines.proofs.Loops.{Passed}
use Rattle.said.proofs.put.Given as goal

-- no room is read at the default, which is any number
abbrev pub invariant-loop-line : goal.invariant-loop-line
invariant-loop-line g l =
    Passed (g.T.Number.stands_at l.file 0) (λ i x. cond (ltb i (length l.offsets)) (g.T.Number.stands_at l.file (get_or l.offsets i 0 + l.shift)) x)
    l.initial.out l.out l.line
