-- The word that the program is started with.
use Rattle.std.specs.Prelude.{Bool, true, false, cond, not, ◌&&◌, List, ℕ, eqb, ltb, length, get_or}
use Rattle.lines.specs.First.{any}

-- are two words one: as long, and no byte differs
unfoldable pub same : List ℕ → List ℕ → Bool
same word other = eqb (length word) (length other) && not (any (λ i. not (eqb (get_or word i 0) (get_or other i 0))) (length word))

-- of so many words, the program's own name among them: none more, or the one that it takes
unfoldable pub taken : ℕ → Bool → Bool
taken words short = cond (ltb words 2) true (cond (eqb words 2) short false)
