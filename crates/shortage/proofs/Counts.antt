-- How many of the numbers below n pass a test, as the code counts them.
use mathlib.Core.Path.{◌≡◌, refl, ap, ◌∙◌}
use mathlib.Core.Bool.{Bool, true, false, cond}
use mathlib.Core.List.{[], ◌∷◌, ◌++◌}
use Prim.Native.Nat.{ℕ, zero, suc, ◌+◌}
use native.Mathlib.Omega.{arith}
use lib.ListN.{length, length-append}
use Rattle.std.specs.List.{filter, range_with_len}
use Rattle.std.proofs.lemmas.List.Elements.{filter-append}
use Rattle.lines.specs.Sum.{sum}
use Rattle.lines.specs.Count.{bit, count}

range_more : (a n : ℕ) → range_with_len a (suc n) ≡ range_with_len a n ++ ((a + n) ∷ [])
range_more a zero = ap (λ k. k ∷ []) (omega arith)
range_more a (suc n) =
    let k : (a + 1) + n ≡ a + suc n = omega arith in
    ap (λ l. a ∷ l) (range_more (a + 1) n) ∙ rw k refl

one : (b : Bool) (n : ℕ) → length (cond b (n ∷ []) []) ≡ bit b
unfolding bit
one true n = refl
one false n = refl

simple : (n : ℕ) → 0 + n ≡ n
simple n = omega arith

pub counted : (b : ℕ → Bool) (n : ℕ) → length (filter b (range_with_len 0 n)) ≡ count b n
unfolding count sum bit
counted b zero = refl
counted b (suc n) =
    let front = filter b (range_with_len 0 n) in
    let end = filter b ((0 + n) ∷ []) in
    let last : length end ≡ bit (b n) = rw (simple n) (one (b n) n) in
    ap (λ l. length (filter b l)) (range_more 0 n) ∙ ap length (filter-append b (range_with_len 0 n) ((0 + n) ∷ [])) ∙ length-append front end
    ∙ ap (λ k. k + length end) (counted b n) ∙ ap (λ k. count b n + k) last
