-- What is printed of a well-formed case, told of the lines that its file writes.
use Rattle.std.specs.Prelude.{◌≡◌, List, ◌++◌, ℕ, pos}
use Rattle.lines.specs.Square.{table}
use Rattle.storm_case.specs.Format.{Line, row_at}
use Rattle.pairing.specs.Told.{summed, PairsLines, LeastPairing}
use Rattle.valley.specs.Lines.{row_lines, total_line, no_pairing}

-- the hut of each row
abbrev pub huts_of : ℕ → List Line → List ℕ
huts_of n lines = table (λ i. (row_at lines i).hut) n

-- hut and column of each row of a least pairing, and its summed difference; or the fixed line, and there is no pairing
pub data Tells (n window : ℕ) (lines : List Line) (text : List ℕ) : Type 0 where
  paired : (columns : List ℕ) → LeastPairing n window lines columns
      → text ≡ row_lines (huts_of n lines) columns n ++ total_line (pos (summed n lines columns)) → Tells n window lines text
  unpaired : ((q : List ℕ) → PairsLines n window lines q → ⊥) → text ≡ no_pairing → Tells n window lines text
