-- The room that is lent to the reader: exactly 4,096 places for each square; and the front of a buffer, which n rows take.
use mathlib.Core.Path.{◌≡◌, sym}
use mathlib.Core.Bool.{true}
use mathlib.Core.List.{List}
use Prim.Native.Nat.{ℕ, ◌≤◌}
use native.Mathlib.Omega.{arith}
use lib.Dec.{T, eqb, eqb→eq}
use lib.ListN.{length, take}
use lib.Seq.{length-take-le}
use Rattle.lines.proofs.Tests.{and_left, and_right}
use Rattle.storm_case.specs.Case.{has_cells}

-- ---- one buffer

pub record Front {A : Type 0} (k : ℕ) (xs : List A) : Type 0 where
  pub inside : k ≤ length xs
  pub long : k ≡ length (take k xs)

pub front_of : {A : Type 0} {k m : ℕ} {xs : List A} → k ≤ m → length xs ≡ m → Front k xs
front_of {k = k} {xs = xs} h e = record { inside = omega arith; long = sym (length-take-le k xs (omega arith)) }

-- ---- costs and mask

pub cells_are : (costs mask : ℕ) → has_cells costs mask ≡ true → (costs ≡ 4096) × (mask ≡ 4096)
unfolding has_cells
cells_are costs mask e =
    let both = eqb costs 4096 in
    let t : T (has_cells costs mask) = rw e tt in
    (eqb→eq costs 4096 (and_left both _ t), eqb→eq mask 4096 (and_right both _ t))
