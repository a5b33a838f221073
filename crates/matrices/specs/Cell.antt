-- Step 4's search as the code answers it: the row and the column of what it finds.
use Rattle.std.specs.Prelude.{Bool, cond, List, ℕ, ltb, ℤ, Option, Some, None}
use Rattle.steps.specs.Steps.{zero_in_column, zero_column}

unfoldable pub found_zero : (n : ℕ) → (ℕ → ℕ → Bool) → List ℤ → ℕ → ℕ → Option (ℕ × ℕ)
found_zero n ok working rows columns =
    let j = zero_column n ok working rows columns in
    cond (ltb j n) (Some (zero_in_column n ok working rows columns j, j)) None
