-- Bytes of a case file, and its numbers, little-endian.
use Rattle.std.specs.Prelude.{List, ℕ, ◌+◌, ◌*◌, ◌<◌, get_or}

-- past the end there is 0
abbrev pub AreBytes : List ℕ → Type 0
AreBytes file = (i : ℕ) → get_or file i 0 < 256

unfoldable pub u16_at : List ℕ → ℕ → ℕ
u16_at file p = get_or file p 0 + 256 * get_or file (p + 1) 0

unfoldable pub u32_at : List ℕ → ℕ → ℕ
u32_at file p = u16_at file p + 65536 * u16_at file (p + 2)
