-- A set of lines is a number: line i is a member exactly if digit i, counted from the lowest, is 1. Several words are joined to one number, lowest first.
use Rattle.std.specs.Prelude.{ℕ, zero, suc, ◌+◌, ◌-◌, ◌*◌, ◌/◌, ◌%◌, ◌^◌, Bool, cond, List, [], ◌∷◌, eqb}

-- is line i a member of s
unfoldable pub has : ℕ → ℕ → Bool
has s i = eqb (s / 2 ^ i % 2) 1

-- s with line i, and without it
unfoldable pub with : ℕ → ℕ → ℕ
with s i = cond (has s i) s (s + 2 ^ i)

unfoldable pub without : ℕ → ℕ → ℕ
without s i = cond (has s i) (s - 2 ^ i) s

-- the lines below n
unfoldable pub all : ℕ → ℕ
all n = 2 ^ n - 1

-- the lines below n that are not members
unfoldable pub rest : ℕ → ℕ → ℕ
rest n s = all n - s % 2 ^ n

-- the lines below n that pass a test
unfoldable pub those : (ℕ → Bool) → ℕ → ℕ
those b zero = 0
those b (suc n) = cond (b n) (those b n + 2 ^ n) (those b n)

-- the number of several words of b digits each, lowest first
unfoldable pub joined : ℕ → List ℕ → ℕ
joined b [] = zero
joined b (w ∷ ws) = joined b ws * 2 ^ b + w
