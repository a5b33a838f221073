-- The total as the code adds it up: costs of 32 bits, each widened to 64 and added.
use mathlib.Core.Path.{◌≡◌, sym, ap, ap₂, ◌∙◌}
use Prim.Native.Nat.{ℕ, ◌+◌, ◌<◌, ◌^◌}
use native.Mathlib.Omega.{arith}
use lib.IntN.{ℤ, ◌+ℤ◌}
use lib.Signed.{mag}
use mir.Syntax.{w32, w64}
use mir.Val.{SFits, to_z, of_z}
use mir.Facts.{to_z-of_z}
use Rattle.lines.specs.Sum.{sumℤ}
use Rattle.lines.specs.Square.{table}
use Rattle.lines.specs.Bounds.{Within}
use Rattle.lines.proofs.Signed.{within_fits}
use Rattle.lines.proofs.Sumsℤ.{sumℤ_ext, sumℤ_within}
use Rattle.lines.proofs.Squares.{table_at}
use Rattle.lines.proofs.Loops.{sumℤ_more}
use Rattle.assignment.specs.Problem.{total}
use Rattle.ground.proofs.Wide.{wide_back}

-- one value more: the addition fits, and what comes of it
pub record Added (f : ℕ → ℤ) (sum : ℤ) (k : ℕ) (z : ℤ) : Type 0 where
  pub fits : SFits w64 (sum +ℤ to_z w64 (of_z w64 (to_z w32 (of_z w32 z))))
  pub again : to_z w64 (of_z w64 (sum +ℤ to_z w64 (of_z w64 (to_z w32 (of_z w32 z))))) ≡ sumℤ f (k + 1)

-- at most 64 values within 1,000,000,000 are far from the limits
pub added : (f : ℕ → ℤ) (sum : ℤ) (k : ℕ) (z : ℤ) → sum ≡ sumℤ f k → z ≡ f k → k < 64 → ((i : ℕ) → i < k + 1 → Within 1000000000 (f i)) → Added f sum k z
added f sum k z so_far new few small =
    let narrow : mag z < 2 ^ 31 = rw new (within_fits w32 (small k (omega arith)) (omega arith)).sfits in
    let more : sum +ℤ to_z w64 (of_z w64 (to_z w32 (of_z w32 z))) ≡ sumℤ f (k + 1) =
    ap₂ ◌+ℤ◌ so_far (wide_back z narrow ∙ new) ∙ sym (sumℤ_more f k) in
    let inside : SFits w64 (sumℤ f (k + 1)) = within_fits w64 (sumℤ_within 1000000000 f (k + 1) small) (omega arith) in
    record { fits = rw more inside; again = ap (λ x. to_z w64 (of_z w64 x)) more ∙ to_z-of_z inside }

-- the total of a table of columns
pub total_table : (cost : ℕ → ℕ → ℤ) (f : ℕ → ℕ) (n : ℕ) → total cost n (table f n) ≡ sumℤ (λ i. cost i (f i)) n
unfolding total
total_table cost f n = sumℤ_ext _ _ n (λ i h. ap (cost i) (table_at 0 f n i h))
