-- Prices and the total of a pairing: where the cost of each allowed cell is row price, column price and working value, the sum of all prices bounds every
-- total from below, and is the total exactly where a pairing uses cells of working value 0. The prices are of any sign.
use mathlib.Core.Path.{◌≡◌, ◌∙◌, ap}
use mathlib.Core.Bool.{Bool}
use mathlib.Core.List.{List}
use Prim.Native.Nat.{ℕ, ◌<◌}
use lib.IntN.{ℤ, pos, ◌+ℤ◌}
use lib.Signed.{◌≤ℤ◌}
use Rattle.lines.specs.Sum.{sumℤ}
use Rattle.lines.proofs.Signed.{signed, plus_parts}
use Rattle.lines.proofs.Sumsℤ.{sumℤ_ext, sumℤ_add, sumℤ_zeros, sumℤ_whole, le_sumℤ}
use Rattle.assignment.specs.Problem.{AllowedPairing, NoneBelow, column, total}
use Rattle.assignment.specs.Prices.{PriceList}
use Rattle.assignment.proofs.Permuted.{permutedℤ}

module _ {n : ℕ} {ok : ℕ → ℕ → Bool} {cost : ℕ → ℕ → ℤ} {row col : ℕ → ℤ} {w : ℕ → ℕ → ℤ} (list : PriceList n ok cost row col w) where
  pub weighed : (p : List ℕ) → AllowedPairing n n ok p → total cost n p ≡ sumℤ row n +ℤ sumℤ col n +ℤ sumℤ (λ i. w i (column p i)) n
  unfolding total
  weighed p q =
      sumℤ_ext _ _ n (λ i h. list.equation i (column p i) h (q.pairing.below i h) (q.allowed i h))
      ∙ sumℤ_add (λ i. row i +ℤ col (column p i)) (λ i. w i (column p i)) n
      ∙ ap (λ s. s +ℤ sumℤ (λ i. w i (column p i)) n) (sumℤ_add row (λ i. col (column p i)) n ∙ ap (λ s. sumℤ row n +ℤ s) (permutedℤ n p col q.pairing))

  -- a pairing on cells of working value 0: all prices add up to its total
  pub on_zeros_adds_up : (p : List ℕ) → AllowedPairing n n ok p → ((i : ℕ) → i < n → w i (column p i) ≡ pos 0) → total cost n p ≡ sumℤ row n +ℤ sumℤ col n
  on_zeros_adds_up p q z =
      let e = weighed p q in
      let s = sumℤ_zeros (λ i. w i (column p i)) n z in
      omega (signed, plus_parts (sumℤ row n +ℤ sumℤ col n) (sumℤ (λ i. w i (column p i)) n))

  -- the working values of an allowed pairing are never negative
  along : (p : List ℕ) → AllowedPairing n n ok p → (i : ℕ) → i < n → pos 0 ≤ℤ w i (column p i)
  along p q i h = list.whole i (column p i) h (q.pairing.below i h) (q.allowed i h)

  pub at_least : NoneBelow n n ok cost (sumℤ row n +ℤ sumℤ col n)
  at_least p q =
      let e = weighed p q in
      let s = sumℤ_whole (λ i. w i (column p i)) n (along p q) in
      omega (signed, plus_parts (sumℤ row n +ℤ sumℤ col n) (sumℤ (λ i. w i (column p i)) n))

  pub on_zeros_least : (p : List ℕ) → AllowedPairing n n ok p → ((i : ℕ) → i < n → w i (column p i) ≡ pos 0) → NoneBelow n n ok cost (total cost n p)
  on_zeros_least p q z = rw (on_zeros_adds_up p q z) at_least

  -- where one pairing uses only cells of working value 0, every least one does
  pub slackness : (p q : List ℕ) → AllowedPairing n n ok p → ((i : ℕ) → i < n → w i (column p i) ≡ pos 0)
      → AllowedPairing n n ok q → NoneBelow n n ok cost (total cost n q) → (i : ℕ) → i < n → w i (column q i) ≡ pos 0
  slackness p q hp z hq least i h =
      let a = on_zeros_adds_up p hp z in
      let e = weighed q hq in
      let l = least p hp in
      let s = le_sumℤ (λ i. w i (column q i)) n i (along q hq) h in
      let t = along q hq i h in
      omega (signed, plus_parts (sumℤ row n +ℤ sumℤ col n) (sumℤ (λ i. w i (column q i)) n))
