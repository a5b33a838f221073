-- How many of the first n in a list pass a test, as the library counts them.
use mathlib.Core.Path.{◌≡◌, refl}
use mathlib.Core.Bool.{Bool}
use mathlib.Core.List.{List}
use Prim.Native.Nat.{ℕ, zero, suc, ◌+◌, ◌≤◌, ◌<◌}
use native.Mathlib.Omega.{arith}
use lib.ListN.{length, get_or, take}
use Rattle.std.specs.List.{count_by}
use Rattle.std.proofs.lemmas.List.Sums.{count_by_more_yes, count_by_more_no}
use Rattle.lines.specs.Count.{count}
use Rattle.lines.specs.Sum.{sum}
use Rattle.lines.proofs.Loops.{count_yes, count_no}
use Rattle.lines.proofs.Tests.{by_cases}

pub count_taken : (p : ℕ → Bool) (xs : List ℕ) (n : ℕ) → n ≤ length xs → count_by p (take n xs) ≡ count (λ i. p (get_or xs i 0)) n
unfolding count sum
count_taken p xs zero h = refl
count_taken p xs (suc n) h =
    let before = count_taken p xs n (omega arith) in
    let below : n < length xs = omega arith in
    let same : n + 1 ≡ suc n = omega arith in
    by_cases (p (get_or xs n 0))
    (λ e.
    let more = count_by_more_yes {X = ℕ} p xs n 0 below e in
    let yes = count_yes (λ i. p (get_or xs i 0)) n e in
    let both : count_by p (take (n + 1) xs) ≡ count (λ i. p (get_or xs i 0)) (n + 1) = omega (arith, more, yes, before) in
    rw same at both)
    (λ e.
    let more = count_by_more_no {X = ℕ} p xs n 0 below e in
    let no = count_no (λ i. p (get_or xs i 0)) n e in
    let both : count_by p (take (n + 1) xs) ≡ count (λ i. p (get_or xs i 0)) (n + 1) = omega (arith, more, no, before) in
    rw same at both)
