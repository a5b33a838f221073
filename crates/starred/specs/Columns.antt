-- The columns that have a star; all others are free.
use Rattle.std.specs.Prelude.{List, ℕ, ltb, get_or}
use Rattle.lines.specs.Sets.{those}

abbrev pub starred : ℕ → List ℕ → ℕ
starred n owner = those (λ j. ltb (get_or owner j 0) n) n
