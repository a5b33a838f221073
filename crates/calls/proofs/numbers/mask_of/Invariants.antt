-- `mask_of` has made the mask bytes below i.
use Rattle.std.proofs.Common.{◌+◌, pos}
use lib.ListN.{get_or, replicate}
use Rattle.lines.proofs.Loops.{Passed}
use Rattle.calls.specs.Numbers.{byte_of}
use Rattle.calls.proofs.numbers.mask_of.Given as goal

abbrev pub invariant-loop-i : goal.invariant-loop-i
invariant-loop-i l = Passed 0 (λ k x. byte_of (get_or l.said (4225 + k) (pos 0))) (replicate 4225 0) l.mask l.i
