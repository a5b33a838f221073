-- The line that says what failed: a colon, and why.
use Rattle.std.specs.Prelude.{List, [], ◌∷◌, ◌++◌, ℕ}
use Rattle.std.specs.declared.option.Option.{Option}
use Rattle.std.specs.Io.KnownBytes.{Appends}

-- what a writer holds grew by the line `WHAT: WHY`
abbrev pub SaysLine : Option (List ℕ) → Option (List ℕ) → List ℕ → Type 0
SaysLine before after what = (why : List ℕ) × Appends before after (what ++ (58 ∷ 32 ∷ []) ++ why ++ (10 ∷ []))
