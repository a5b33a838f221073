-- `prices::shift_prices` meets its contract: the lines of the set that were met so far are done, and the others stay (`Passed`).
use mathlib.Core.Bool.{cond}
use Prim.Native.Nat.{ℕ}
use lib.IntN.{ℤ, pos, ◌+ℤ◌}
use lib.ListN.{length}
use Rattle.lines.specs.Sets.{has}
use Rattle.lines.proofs.Loops.{Passed}
use Rattle.lines.proofs.Walks.{Walk}
use Rattle.ground.proofs.prices.shift_prices.Given as goal

abbrev pub moved : ℕ → ℤ → ℕ → ℤ → ℤ
moved lines change i p = cond (has lines i) (p +ℤ change) p

abbrev pub invariant-loop-line : goal.invariant-loop-line
invariant-loop-line l = Walk (length l.initial.prices) l.lines (Passed (pos 0) (moved l.lines l.change) l.initial.prices l.prices) l.line-iterator.left
