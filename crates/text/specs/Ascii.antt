-- Words as bytes.
use mathlib.Core.List as L
use Rattle.std.specs.Prelude.{List, ℕ}
use Prim.Native.String.{String, [], ◌∷◌}
use Prim.Native.Char.{code}

unfoldable pub ascii : String → List ℕ
ascii [] = L.[]
ascii (letter ∷ word) = L.◌∷◌ (code letter) (ascii word)
