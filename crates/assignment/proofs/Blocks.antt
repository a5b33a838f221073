-- A block leaves no allowed pairing.
use mathlib.Core.Bool.{Bool, not}
use Prim.Native.Nat.{ℕ}
use native.Mathlib.Omega.{arith}
use lib.Dec.{not_T}
use Rattle.lines.proofs.Counts.{count_inj, count_not}
use Rattle.assignment.specs.Problem.{Impossible, Block, column}

-- the rows of the block have columns of their own, all outside it, and there are too few
pub block_impossible : {f n : ℕ} {ok : ℕ → ℕ → Bool} {rows columns : ℕ → Bool} → Block f n ok rows columns → Impossible f n ok
block_impossible {f} {n} {ok} {rows} {columns} b q a =
    omega (
      arith,
      b.large,
      count_not columns n,
      count_inj rows (λ j. not (columns j)) (column q) f n
          (λ i h t. (a.pairing.below i h, not_T (columns (column q i)) (λ u. b.shut i (column q i) h (a.pairing.below i h) t u (a.allowed i h))))
          (λ i j h k t u. a.pairing.apart i j h k),
    )
