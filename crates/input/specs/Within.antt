-- What a read answers: how many bytes are at the front of the buffer, or that it failed.
use Rattle.std.specs.Prelude.{◌≡◌, List, ℕ, ◌≤◌, ◌<◌, length, take, Result, Ok, Err}
use Rattle.std.specs.declared.option.Option.{Option}
use Rattle.std.specs.declared.io.Error.{Error}
use Rattle.std.specs.Io.KnownBytes.{Consumes, IsAtEnd}

-- the first bytes of the buffer, so many, can be lent
abbrev pub IsFront : ℕ → List ℕ → Type 0
IsFront count room = (count ≤ length room) × (count ≡ length (take count room))

abbrev pub Within : Result ℕ Error → List ℕ → Type 0
Within (Ok count) room = IsFront count room
Within (Err error) room = Unit {0}

-- What a reader had left to give, where that is known, begins with what is counted in the buffer; it is all, unless the buffer is full.
-- Where a read failed, the reader gave a part of it before.
abbrev pub Given : Result ℕ Error → Option (List ℕ) → Option (List ℕ) → List ℕ → Type 0
Given (Ok count) before after room = Consumes before after (take count room) × (count < length room → IsAtEnd after)
Given (Err error) before after room = (count : ℕ) × (count ≤ length room) × Consumes before after (take count room)
