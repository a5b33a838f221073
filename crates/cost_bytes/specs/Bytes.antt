-- Costs as bytes: four little-endian bytes each.
use Rattle.std.specs.Prelude.{cond, not, ◌&&◌, List, [], ℕ, ◌+◌, ◌*◌, ◌/◌, ◌%◌, eqb, ltb, ℤ, pos, ◌-ℤ◌, length, get_or}
use Rattle.lines.specs.Square.{table}

-- the number that four bytes write, the lowest first
abbrev pub little_endian : ℕ → ℕ → ℕ → ℕ → ℕ
little_endian b0 b1 b2 b3 = b0 + 256 * b1 + 65_536 * b2 + 16_777_216 * b3

-- two's complement: from 2^31 on, a number of 32 bits stands for itself less 2^32
unfoldable pub twos_complement : ℕ → ℤ
twos_complement x = cond (ltb x 2_147_483_648) (pos x) (pos x -ℤ pos 4_294_967_296)

-- cost q is in the four bytes from 4 q on
unfoldable pub cost_of : List ℕ → ℕ → ℤ
cost_of bytes q = twos_complement (little_endian (get_or bytes (4 * q) 0) (get_or bytes (4 * q + 1) 0) (get_or bytes (4 * q + 2) 0) (get_or bytes (4 * q + 3) 0))

-- the costs that the bytes are; bytes whose number is no multiple of 4 are none
unfoldable pub decoded : List ℕ → List ℤ
decoded bytes = cond (eqb (length bytes % 4) 0) (table (cost_of bytes) (length bytes / 4)) []

-- how many costs are read: those of a table of n rows, n at most 64, where the bytes are exactly its bytes; else none
unfoldable pub readable : ℕ → ℕ → ℕ
readable n bytes = cond (not (ltb 64 n) && eqb bytes (4 * (n * n))) (n * n) 0
