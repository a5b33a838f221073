-- Lines one after another, as the code puts them together.
use mathlib.Core.Path.{◌≡◌, ap}
use mathlib.Core.List.{List, ◌++◌}
use Prim.Native.Nat.{ℕ, ◌+◌}
use native.Mathlib.Numerals.{add-one}
use Rattle.text.specs.Puts.{Puts}
use Rattle.text.specs.declared.Text.{Text}
use Rattle.text.proofs.PutLaws.{◌▸◌}
use Rattle.entries.specs.Lines.{each_line}

-- one more line, at the code's `i + 1`
pub line_more : (line : ℕ → List ℕ) (i : ℕ) → each_line line (i + 1) ≡ each_line line i ++ line i
unfolding each_line
line_more line i = ap (each_line line) (add-one i)

-- the next line was put behind those before it
pub puts_line : (line : ℕ → List ℕ) (i : ℕ) {a b c : Text} → Puts a (each_line line i) b → Puts b (line i) c → Puts a (each_line line (i + 1)) c
puts_line line i before next = rw (line_more line i) (before ▸ next)
