-- What the leaves ask of what they are lent. Only a set in a word bounds n: a square is known by its length.
use Rattle.std.specs.Prelude.{◌≡◌, List, ℕ, ◌*◌, ◌≤◌, ◌<◌, ℤ, pos, length, get_or}
use Rattle.std.specs.Int.{w64}
use Rattle.std.proofs.Common.{SFits}

-- exactly n * n cells
abbrev pub Square : {A : Type 0} → ℕ → List A → Type 0
Square n cells = length cells ≡ n * n

-- a word has a bit for each of n lines
pub record InWord (n : ℕ) : Type 0 where
  pub some : 1 ≤ n
  pub most : n ≤ 64

-- mask and working values of n rows, and sets of their lines
pub record Grid (n : ℕ) (mask : List ℕ) (working : List ℤ) : Type 0 where
  pub word : InWord n
  pub mask_square : Square n mask
  pub working_square : Square n working

-- every mask byte is 0 or 1
abbrev pub Flags : List ℕ → Type 0
Flags mask = (q : ℕ) → get_or mask q 0 ≤ 1

-- every number of the list fits 64 bits
abbrev pub Fit64 : List ℤ → Type 0
Fit64 xs = (i : ℕ) → i < length xs → SFits w64 (get_or xs i (pos 0))
