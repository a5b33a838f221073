-- A row of a square, and of one of at most 64 rows, in terms that `omega` reads: to it a product is an unknown.
use Prim.Native.Nat.{ℕ, ◌+◌, ◌*◌, ◌≤◌, ◌<◌}
use native.Mathlib.Nat.{mul-le-mul, mul-le-mul_right}
use native.Mathlib.Omega.{arith}

-- row by row the square is full
pub row_end : (n row : ℕ) → row < n → row * n + n ≤ n * n
row_end n row l = omega (arith, mul-le-mul_right n l)

pub cells_fit : {n : ℕ} → n ≤ 64 → n * n ≤ 4096
cells_fit h = mul-le-mul h h

pub record RowFits (n row : ℕ) : Type 0 where
  pub end : row * n + n ≤ n * n
  pub small : n * n ≤ 4096

pub row_fits : (n row : ℕ) → n ≤ 64 → row < n → RowFits n row
row_fits n row h l = record { end = row_end n row l; small = cells_fit h }
