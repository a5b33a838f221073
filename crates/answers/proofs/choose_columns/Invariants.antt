-- `choose_columns` gives each row the column of its star, and the total of their costs. The loop's invariant: the columns and the sum of the rows so far.
use Prim.Native.Nat.{ℕ}
use mathlib.Core.Path.{◌≡◌}
use mathlib.Core.List.{List}
use lib.IntN.{ℤ}
use Rattle.lines.specs.Sum.{sumℤ}
use Rattle.lines.proofs.Loops.{Passed}
use Rattle.steps.specs.Lent.{cost_at}
use Rattle.steps.specs.Steps.{star_in_row}
use Rattle.answers.proofs.choose_columns.Given as goal

-- what row i's star costs
abbrev pub star_cost : ℕ → List ℤ → List ℕ → ℕ → ℤ
star_cost n costs marks i = cost_at n costs i (star_in_row n marks i)

abbrev pub invariant-loop-row : goal.invariant-loop-row
invariant-loop-row l =
    Passed 0 (λ i x. star_in_row l.matrix.n l.marks i) l.initial.columns l.columns l.row × (l.sum ≡ sumℤ (star_cost l.matrix.n l.matrix.costs.now l.marks) l.row)
