-- The search for the least value row by row.
use mathlib.Core.Path.{◌≡◌, refl, sym, ap, ◌∙◌}
use mathlib.Core.Bool.{Bool, false}
use Prim.Native.Nat.{ℕ, zero, suc, ◌+◌, ◌*◌, ◌/◌, ◌%◌, ◌<◌}
use native.Mathlib.Nat.{add-zero, add-suc, zero-mul}
use native.Mathlib.Omega.{arith}
use lib.IntN.{ℤ}
use Rattle.lines.proofs.Squares.{place_of}
use Rattle.ground.specs.Least.{least_from}
use Rattle.std.specs.Prelude.{Option}

-- tests and values that agree below n
from_ext : (best : Option ℤ) (b c : ℕ → Bool) (f g : ℕ → ℤ) (n : ℕ) → ((i : ℕ) → i < n → b i ≡ c i) → ((i : ℕ) → i < n → f i ≡ g i)
    → least_from best b f n ≡ least_from best c g n
unfolding least_from
from_ext best b c f g zero e d = refl
from_ext best b c f g (suc n) e d =
    rw (from_ext best b c f g n (λ i h. e i (omega arith)) (λ i h. d i (omega arith)), e n (omega arith), d n (omega arith))

-- a search that goes on
from_on : (best : Option ℤ) (b : ℕ → Bool) (f : ℕ → ℤ) (k n : ℕ) → least_from best b f (k + n) ≡ least_from (least_from best b f k) (λ j. b (k + j)) (λ j. f (k + j)) n
unfolding least_from
from_on best b f k zero = rw add-zero
from_on best b f k (suc n) = rw (add-suc, from_on best b f k n)

-- a search in which no index passes
from_no : (best : Option ℤ) (b : ℕ → Bool) (f : ℕ → ℤ) (n : ℕ) → ((i : ℕ) → i < n → b i ≡ false) → least_from best b f n ≡ best
unfolding least_from
from_no best b f zero e = refl
from_no best b f (suc n) e = rw (e n (omega arith)) (from_no best b f n (λ i h. e i (omega arith)))

-- over the places of a square, after i rows: row i is searched, or has no cell that passes
module _ (best : Option ℤ) (n : ℕ) (b : ℕ → ℕ → Bool) (f : ℕ → ℤ) where
  unfoldable pub rows_least : ℕ → Option ℤ
  rows_least i = least_from best (λ q. b (q / n) (q % n)) f (i * n)

  pub rows_least_none : best ≡ rows_least 0
  unfolding rows_least least_from
  rows_least_none = rw zero-mul

  rows_least_more : (i : ℕ) → rows_least (i + 1) ≡ least_from (rows_least i) (b i) (λ j. f (i * n + j)) n
  unfolding rows_least
  rows_least_more i = ap (least_from best _ f) more ∙ from_on best _ f (i * n) n ∙ from_ext _ _ _ _ _ n (λ j h. here j (place_of n i j h)) (λ j h. refl)
    where
      more : (i + 1) * n ≡ i * n + n
      more = omega arith

      here : (j : ℕ) → ((i * n + j) / n ≡ i) × ((i * n + j) % n ≡ j) → b ((i * n + j) / n) ((i * n + j) % n) ≡ b i j
      here j p = cc

  pub row_searched : (i : ℕ) (c : ℕ → Bool) (now next : Option ℤ) → now ≡ rows_least i → next ≡ least_from now c (λ j. f (i * n + j)) n
      → ((j : ℕ) → j < n → c j ≡ b i j) → next ≡ rows_least (i + 1)
  row_searched i c now next e k same =
      k ∙ from_ext now _ _ _ _ n same (λ j h. refl) ∙ ap (λ l. least_from l (b i) (λ j. f (i * n + j)) n) e ∙ sym (rows_least_more i)

  pub row_passed_over : (i : ℕ) (now next : Option ℤ) → now ≡ rows_least i → next ≡ now → ((j : ℕ) → j < n → b i j ≡ false) → next ≡ rows_least (i + 1)
  row_passed_over i now next e k none = k ∙ e ∙ sym (from_no (rows_least i) (b i) _ n none) ∙ sym (rows_least_more i)
