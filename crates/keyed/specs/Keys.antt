-- Keys: a value, a column and a row in one number, which goes by value, then by column, then by row.
--
-- So the least key of the open cells tells everything that steps 4 and 6 ask. Its value says whether there is a zero; its place is then the first zero in step 4's
-- order, column by column and downwards in each; and its value is else the least one, by which step 6 adjusts. An adjustment takes the same off every open cell, so
-- no key changes: what was taken off in this phase is kept in one number, `risen`, and each value is read less that. A column that opens lowers the keys of the
-- uncovered rows to what they have in it: n comparisons for a prime, where the plain searches look at n * n cells.
--
-- A phase begins with the columns without a star open. They rise together, so a row's cheapest one stays so till it gets its star: it is kept from phase to phase, and
-- only the rows that have lost theirs look anew.
--
-- N is the packing base, above every line.
use Rattle.std.specs.Prelude.{Bool, cond, not, ◌&&◌, ℕ, zero, suc, ◌+◌, ◌*◌, ◌/◌, ◌%◌, ℤ, pos, ◌+ℤ◌, ◌-ℤ◌, ◌*ℤ◌}
use Rattle.std.specs.Int.Signed.{lt_z}
use Rattle.std.specs.Int.{int_min}
use Rattle.lines.specs.Sets.{has}
use Rattle.lines.proofs.Signed.{P}

-- the key of a forbidden cell, and of a row with no open cell
abbrev pub far : ℤ
far = pos 4_611_686_018_427_387_904

-- every key of an allowed cell is below, and every other is not, whatever prices are taken off
abbrev pub limit : ℤ
limit = pos 2_305_843_009_213_693_952

module _ (N : ℕ) where
  unfoldable pub pack : ℤ → ℕ → ℕ → ℤ
  pack value column row = value *ℤ pos (N * N) +ℤ pos (column * N + row)

  -- and taken apart again
  unfoldable pub value_of : ℤ → ℤ
  value_of key = pos (P key / (N * N))

  unfoldable pub column_of : ℤ → ℕ
  column_of key = P key / N % N

  unfoldable pub row_of : ℤ → ℕ
  row_of key = P key % N

  -- the key of an allowed cell's cost, and far at any other: at (column, row) of the table
  unfoldable pub entry : (ℕ → ℕ → Bool) → (ℕ → ℕ → ℤ) → ℕ → ℕ → ℤ
  entry ok cost column row = cond (ok row column) (pack (cost row column) column row) far

  -- what is left of an entry with prices taken off
  unfoldable pub less_prices : ℤ → ℤ → ℤ → ℤ
  less_prices entry row_price price = entry -ℤ (row_price +ℤ price) *ℤ pos (N * N)

  -- the least key names a zero: an open cell whose value is no more than what has risen
  unfoldable pub names_zero : ℤ → ℤ → Bool
  names_zero best risen = lt_z best limit && not (lt_z risen (value_of best))

-- a row's key after a column has opened, in which it has `term`; a covered row's key does not matter
unfoldable pub lowered_key : ℕ → (ℕ → ℤ) → ℕ → ℤ → ℤ
lowered_key rows term i k = cond (has rows i) k (int_min k (term i))

-- the least key of the rows below n that are not covered, or far
unfoldable pub least_key : ℕ → (ℕ → ℤ) → ℕ → ℤ
least_key rows key zero = far
least_key rows key (suc n) = cond (has rows n) (least_key rows key n) (int_min (least_key rows key n) (key n))
