-- A column opens, row by row: what `lower` keeps from row to row.
use mathlib.Core.Path.{◌≡◌, refl, ap, ◌∙◌}
use mathlib.Core.Bool.{true, false}
use mathlib.Core.List.{List}
use Prim.Native.Nat.{ℕ, ◌+◌, ◌<◌}
use native.Mathlib.Numerals.{add-one}
use native.Mathlib.Omega.{arith}
use lib.IntN.{ℤ, pos}
use lib.ListN.{length, get_or, set}
use Rattle.lines.specs.Sets.{has}
use Rattle.lines.proofs.Loops.{Passed, passed_none, passed_store, passed_keep}
use Rattle.std.specs.Int.{int_min}
use Rattle.keyed.specs.Keys.{far, lowered_key, least_key}

module _ (rows : ℕ) (term : ℕ → ℤ) (key₀ : List ℤ) where
  abbrev pub lowest : ℕ → ℤ
  lowest i = int_min (get_or key₀ i (pos 0)) (term i)

  -- after k rows
  pub record Lowered (key : List ℤ) (best : ℤ) (k : ℕ) : Type 0 where
    pub passed : Passed (pos 0) (lowered_key rows term) key₀ key k
    pub least : best ≡ least_key rows lowest k

  pub lowered_none : Lowered key₀ far 0
  unfolding least_key
  lowered_none = record { passed = passed_none (pos 0) (lowered_key rows term) key₀; least = refl }

  -- a covered row
  pub lowered_skip : {key : List ℤ} {best : ℤ} (k : ℕ) → has rows k ≡ true → Lowered key best k → Lowered key best (k + 1)
  unfolding least_key lowered_key
  lowered_skip {key} k e l = record {
    passed = passed_keep (pos 0) (lowered_key rows term) key₀ key k (l.passed.left k (omega arith) ∙ rw e) l.passed;
    least = l.least ∙ rw (add-one, e);
  }

  -- an uncovered row
  pub lowered_store : {key : List ℤ} {best : ℤ} (k : ℕ) (here best' : ℤ) → has rows k ≡ false → k < length key
      → here ≡ int_min (get_or key k (pos 0)) (term k) → best' ≡ int_min best here → Lowered key best k → Lowered (set key k here) best' (k + 1)
  unfolding least_key lowered_key
  lowered_store {key} k here best' e h eh eb l =
      let here_is : here ≡ lowest k = eh ∙ ap (λ x. int_min x (term k)) (l.passed.left k (omega arith)) in
      record {
        passed = passed_store (pos 0) (lowered_key rows term) key₀ key k here h (here_is ∙ rw e) l.passed;
        least = eb ∙ rw (add-one, e, l.least, here_is);
      }
