-- Text in a lent buffer, piece after piece: what does not fit is left out.
use Rattle.std.specs.Prelude.{List, ◌++◌, ℕ, length, take, drop}

-- the front of the buffer becomes the text, the rest stays; how much of the buffer the text takes comes first
unfoldable pub front : List ℕ → List ℕ → ℕ × List ℕ
front out text = (length text, text ++ drop (length text) out)

-- the used part of the buffer, and behind it as much of the piece as fits
unfoldable pub put : List ℕ → ℕ → List ℕ → ℕ × List ℕ
put out used piece = front out (take (length out) (take used out ++ piece))
