-- What a line's numbers ask of the offsets.
use Rattle.std.specs.Prelude.{List, ℕ, ◌+◌, ◌≤◌, ◌<◌, length, get_or}

-- each has this many bytes behind it in the file
pub record Readable (file : List ℕ) (size : ℕ) (offsets : List ℕ) : Type 0 where
  pub inside : (i : ℕ) → i < length offsets → get_or offsets i 0 + size ≤ length file
