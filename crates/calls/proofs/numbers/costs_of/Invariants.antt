-- `costs_of` has made the costs below i.
use Rattle.std.proofs.Common.{pos}
use lib.ListN.{get_or, replicate}
use Rattle.lines.proofs.Loops.{Passed}
use Rattle.calls.specs.Numbers.{cost_of}
use Rattle.calls.proofs.numbers.costs_of.Given as goal

abbrev pub invariant-loop-i : goal.invariant-loop-i
invariant-loop-i l = Passed (pos 0) (λ k x. cost_of (get_or l.said k (pos 0))) (replicate 4225 (pos 0)) l.costs l.i
