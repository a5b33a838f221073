-- What the records of an accepted file say of each line, put into lent room: line i at place i, as far as the room goes. At a refusal the room is as it was.
use Rattle.std.specs.Prelude.{cond, List, ℕ, ltb}
use Rattle.lines.specs.Square.{each}
use Rattle.judgement.specs.Scan.{Scan, Judged, more, refused, accepted, judged}

-- what `f` says of line i
unfoldable pub said_in : (Scan → ℕ → ℕ) → List ℕ → Judged → List ℕ
said_in f room (accepted s) = each (λ i x. cond (ltb i s.n) (f s i) x) room
said_in f room (refused number place) = room
said_in f room (more s) = room

unfoldable pub said : (List ℕ → Scan → ℕ → ℕ) → List ℕ → List ℕ → List ℕ
said f file room = said_in (f file) room (judged file)
