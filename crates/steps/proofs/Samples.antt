-- A sample that holds is an outcome of the call: what the samples compare, with every number read, is the outcome itself.
use mathlib.Core.Path.{◌≡◌, refl, sym, ap, ◌∙◌}
use mathlib.Core.List.{List, [], ◌∷◌, map}
use mathlib.Core.Option.{Option, none, some}
use Prim.Native.Nat.{ℕ, ◌+◌}
use native.Mathlib.Nat.{zero-add}
use lib.IntN.{ℤ, pos, negsuc}
use Rattle.steps.specs.declared.Answer.{Answer}
use Rattle.steps.specs.Lent.{Buffers}
use Rattle.steps.specs.Outcome.{Outcome}
use Rattle.steps.specs.Samples.{Says, row, byte, prior, said, wanted, figure, answer_read, buffers_read, read, outcome, computed}

figure_is : (z : ℤ) → figure z ≡ z
unfolding figure
figure_is (pos m) = ap pos (zero-add m)
figure_is (negsuc m) = ap negsuc (zero-add m)

map_is : {A : Type 0} (f : A → A) → ((x : A) → f x ≡ x) → (xs : List A) → map f xs ≡ xs
map_is f e [] = refl
map_is f e (x ∷ xs) = rw (e x, map_is f e xs) refl

read_is : (o : Option (Answer × Buffers)) → read o ≡ o
unfolding answer_read buffers_read read
read_is none = refl
read_is (some o) =
    let a = o.0 in
    let b = o.1 in
    rw (
      zero-add a.number,
      zero-add a.place,
      figure_is a.total,
      zero-add a.adjustments,
      zero-add a.primes,
      zero-add a.augmentations,
      zero-add a.block_rows,
      zero-add a.block_columns,
      map_is figure figure_is b.working,
      map_is (λ m. 0 + m) zero-add b.marks,
      map_is (λ m. 0 + m) zero-add b.columns,
      map_is figure figure_is b.row_prices,
      map_is figure figure_is b.column_prices,
    )
    refl

pub sample_outcome : (n budget : ℕ) (matrix : List ℤ) (says : Says) → computed (row n budget matrix says) ≡ wanted (row n budget matrix says)
    → Outcome 64 (record { n = n; costs = matrix; mask = map byte matrix; budget = budget }) (prior n) (said n matrix says).0 (said n matrix says).1
unfolding outcome computed wanted
sample_outcome n budget matrix says h = record { count = 99; exact = sym (read_is _) ∙ h }
