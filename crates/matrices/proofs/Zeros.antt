-- What the code sees of zeros, as the definitions have it: of one cell, of a column, and the first uncovered one.
use mathlib.Core.Path.{◌≡◌, sym, ◌∙◌}
use mathlib.Core.Bool.{Bool, true, false, not, ◌&&◌, and-true, and-false}
use mathlib.Core.List.{List}
use Prim.Native.Nat.{ℕ, ◌+◌, ◌%◌, ◌≤◌, ◌<◌}
use native.Mathlib.Omega.{arith}
use borrow.Author.Tests.{eqb-true, eqb-false, ne_eqb, lt-ltb, le-ltb}
use lib.Bits.{bit_or, or_zero_r, or_add_and, and_le_l}
use lib.Dec.{eqb, ltb}
use lib.IntN.{ℤ}
use mir.Syntax.{w64}
use mir.Val.{SFits, of_z}
use Rattle.lines.specs.First.{first, found}
use Rattle.lines.specs.Sets.{has}
use Rattle.lines.proofs.Tests.{by_cases}
use Rattle.lines.proofs.Firsts.{first_ext, first_none, some_found, none_found}
use Rattle.lines.proofs.Loops.{Missed, missed_hit, missed_all}
use Rattle.steps.specs.Steps.{is_zero, zero_at, uncovered, zero_in_column, zero_column}
use Rattle.ground.proofs.Wide.{zero_bits}
use Rattle.std.specs.Prelude.{Some, None}
use Rattle.matrices.specs.Cell.{found_zero}

-- a cell's value and what its mask byte adds, joined: 0 for a zero of an allowed cell alone
pub zero_test : (z : ℤ) (byte : ℕ) → SFits w64 z → byte < 256 → eqb (bit_or (of_z w64 z) ((byte + 255) % 256)) 0 ≡ (eqb byte 1 && is_zero z)
zero_test z byte f h =
    by_cases (eqb byte 1)
    (λ y.
    let e : (byte + 255) % 256 ≡ 0 = omega (arith, eqb-true byte 1 y) in
    rw (y, e, or_zero_r) (zero_bits z f))
    (λ y.
    let b : ℕ = (byte + 255) % 256 in
    let ne = eqb-false byte 1 y in
    rw y (ne_eqb (bit_or (of_z w64 z) b) 0 (λ e. omega (arith, or_add_and (of_z w64 z) b, and_le_l (of_z w64 z) b))))

module _ (n : ℕ) (ok : ℕ → ℕ → Bool) (working : List ℤ) (rows columns : ℕ) where
  -- in an uncovered column the rows alone matter, and in a covered one there is nothing
  open_column : (j : ℕ) → has columns j ≡ false → zero_in_column n ok working rows columns j ≡ first (λ i. not (has rows i) && zero_at n ok working i j) n
  unfolding zero_in_column uncovered
  open_column j e = first_ext _ _ n (λ i h. rw (e, and-true))

  pub open_none : (j : ℕ) → has columns j ≡ false → None ≡ found n (first (λ i. not (has rows i) && zero_at n ok working i j) n)
      → ltb (zero_in_column n ok working rows columns j) n ≡ false
  open_none j e f = rw (open_column j e) (le-ltb _ n (none_found n _ (sym f)))

  pub covered_column : (j : ℕ) → has columns j ≡ true → ltb (zero_in_column n ok working rows columns j) n ≡ false
  unfolding zero_in_column uncovered
  covered_column j e = let none : zero_in_column n ok working rows columns j ≡ n = first_none _ n (λ i h. rw (e, and-false) tt) in le-ltb _ n (omega arith)

  -- column j is the first that has one, in row i; or none has
  pub found_at : {i j : ℕ} → j < n → has columns j ≡ false → Some i ≡ found n (first (λ i. not (has rows i) && zero_at n ok working i j) n)
      → Missed (λ j. ltb (zero_in_column n ok working rows columns j) n) j → Some (i, j) ≡ found_zero n ok working rows columns
  unfolding found_zero zero_column
  found_at {i} {j} h o f m =
      let row = some_found n _ i (sym f) in
      let e : zero_in_column n ok working rows columns j ≡ i = open_column j o ∙ row.0 in
      rw (← missed_hit n h (rw e (lt-ltb i n row.1)) m, lt-ltb j n h, e)

  pub none_at : {j : ℕ} → n ≤ j → Missed (λ j. ltb (zero_in_column n ok working rows columns j) n) j → None ≡ found_zero n ok working rows columns
  unfolding found_zero zero_column
  none_at h m = rw (← missed_all n h m, le-ltb n n (omega arith))
