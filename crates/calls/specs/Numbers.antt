-- The numbers that a stored call says, and what it is that they say.
use Rattle.std.specs.Prelude.{◌≡◌, cond, List, ℕ, ◌+◌, ◌<◌, ℤ, pos, negsuc, nat_abs, length, get_or}
use Rattle.std.specs.Int.Signed.{lt_z}
use Rattle.std.specs.Int.{w64}
use Rattle.std.proofs.Common.{to_z}
use Rattle.steps.specs.declared.Answer.{Answer}

-- what 32 bits do not hold is no cost, what 8 bits do not hold no mask byte
unfoldable pub cost_of : ℤ → ℤ
cost_of z = cond (lt_z z (negsuc 2_147_483_647)) (pos 0) (cond (lt_z (pos 2_147_483_647) z) (pos 0) z)

unfoldable pub byte_of : ℤ → ℕ
byte_of z = cond (lt_z z (pos 0)) 0 (cond (lt_z (pos 255) z) 0 (nat_abs z))

-- 64 bits in two's complement
abbrev pub signed_of : ℕ → ℤ
signed_of x = to_z w64 x

-- from `start` on, the first numbers that are said are these
pub record Says (said : List ℤ) (start count : ℕ) (there : ℕ → ℤ) : Type 0 where
  pub says : (i : ℕ) → i < count → get_or said (start + i) (pos 0) ≡ there i

-- the numbers that are said from `start` on begin with these, as `shows` ties a number to what is said of it
pub record SaysAll {T : Type 0} (shows : T → ℤ → Type 0) (said : List ℤ) (start : ℕ) (numbers : List T) : Type 0 where
  pub says : (i : ℕ) (d : T) → i < length numbers → shows (get_or numbers i d) (get_or said (start + i) (pos 0))

-- the fields of an answer, in the order in which they are said
pub record SaysAnswer (said : List ℤ) (a : Answer) : Type 0 where
  pub number : get_or said 17_095 (pos 0) ≡ pos a.number
  pub place : get_or said 17_096 (pos 0) ≡ signed_of a.place
  pub adjustments : get_or said 17_097 (pos 0) ≡ pos a.adjustments
  pub primes : get_or said 17_098 (pos 0) ≡ pos a.primes
  pub augmentations : get_or said 17_099 (pos 0) ≡ pos a.augmentations
  pub total : get_or said 17_100 (pos 0) ≡ a.total
  pub block_rows : get_or said 17_101 (pos 0) ≡ signed_of a.block_rows
  pub block_columns : get_or said 17_102 (pos 0) ≡ signed_of a.block_columns
