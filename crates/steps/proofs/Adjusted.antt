-- What an adjustment does to one working value and to one price.
use mathlib.Core.Path.{◌≡◌, refl, ◌∙◌}
use mathlib.Core.Bool.{Bool, true, false, not, cond}
use mathlib.Core.List.{List}
use Prim.Native.Nat.{ℕ, ◌+◌, ◌*◌, ◌/◌, ◌%◌, ◌<◌}
use native.Mathlib.Omega.{arith}
use lib.Dec.{T}
use lib.IntN.{ℤ, pos, ◌+ℤ◌, ◌-ℤ◌}
use lib.ListN.{length, get_or}
use Rattle.lines.specs.Square.{cell}
use Rattle.lines.specs.Sets.{has}
use Rattle.lines.proofs.Tests.{T_true, T_false}
use Rattle.lines.proofs.Signed.{signed, minus_parts}
use Rattle.lines.proofs.Squares.{place_lt, place_of, each_at}
use Rattle.steps.specs.Steps.{follow, lowered, raised, followed}
use Rattle.steps.specs.Going.{Open}
use Rattle.steps.proofs.Turns.{Lowest}

-- ---- prices

module _ (z : ℤ) (lines : ℕ) (prices : List ℤ) (i : ℕ) (h : i < length prices) where
  pub lowered_at : get_or (lowered z lines prices) i (pos 0) ≡ cond (has lines i) (get_or prices i (pos 0) -ℤ z) (get_or prices i (pos 0))
  unfolding lowered
  lowered_at = each_at (pos 0) (λ i p. cond (has lines i) (p -ℤ z) p) prices i h

  pub raised_at : get_or (raised z lines prices) i (pos 0) ≡ cond (has lines i) (get_or prices i (pos 0)) (get_or prices i (pos 0) +ℤ z)
  unfolding raised
  raised_at = each_at (pos 0) (λ j p. cond (has lines j) p (p +ℤ z)) prices i h

-- ---- working values

module _ (n : ℕ) (ok : ℕ → ℕ → Bool) (z : ℤ) (rows columns : ℕ) (working : List ℤ) (size : length working ≡ n * n) (i j : ℕ) (hi : i < n) (hj : j < n) where
  pub followed_at : cell (pos 0) n (followed n ok z rows columns working) i j
      ≡ cond (ok i j) (follow z (has rows i) (has columns j) (cell (pos 0) n working i j)) (cell (pos 0) n working i j)
  unfolding followed
  followed_at =
      let q = place_of n i j hj in
      each_at (pos 0) (λ q w. cond (ok (q / n) (q % n)) (follow z (has rows (q / n)) (has columns (q % n)) w) w) working (i * n + j)
      (omega (arith, place_lt n i j hi hj)) ∙ rw (q.0, q.1)

  -- by whether the cell is allowed, its row covered, and its column
  by_tests : (x row column : Bool) → ok i j ≡ x → has rows i ≡ row → has columns j ≡ column
      → cell (pos 0) n (followed n ok z rows columns working) i j ≡ cond x (follow z row column (cell (pos 0) n working i j)) (cell (pos 0) n working i j)
  by_tests x row column e f g = followed_at ∙ rw (e, f, g)

  pub forbidden_stays : T (not (ok i j)) → cell (pos 0) n (followed n ok z rows columns working) i j ≡ cell (pos 0) n working i j
  forbidden_stays t = by_tests false _ _ (T_false (ok i j) t) refl refl

  -- on exactly one covered line
  pub row_stays : T (has rows i) → T (not (has columns j)) → cell (pos 0) n (followed n ok z rows columns working) i j ≡ cell (pos 0) n working i j
  unfolding follow
  row_stays t u = go (ok i j) refl
    where
      go : (x : Bool) → ok i j ≡ x → cell (pos 0) n (followed n ok z rows columns working) i j ≡ cell (pos 0) n working i j
      go true e = by_tests true true false e (T_true (has rows i) t) (T_false (has columns j) u)
      go false e = by_tests false true false e (T_true (has rows i) t) (T_false (has columns j) u)

  pub column_stays : T (not (has rows i)) → T (has columns j) → cell (pos 0) n (followed n ok z rows columns working) i j ≡ cell (pos 0) n working i j
  unfolding follow
  column_stays t u = go (ok i j) refl
    where
      go : (x : Bool) → ok i j ≡ x → cell (pos 0) n (followed n ok z rows columns working) i j ≡ cell (pos 0) n working i j
      go true e = by_tests true false true e (T_false (has rows i) t) (T_true (has columns j) u)
      go false e = by_tests false false true e (T_false (has rows i) t) (T_true (has columns j) u)

  -- on none
  pub open_falls : Open ok rows columns i j → cell (pos 0) n (followed n ok z rows columns working) i j ≡ cell (pos 0) n working i j -ℤ z
  unfolding follow
  open_falls o = by_tests true false false (T_true (ok i j) o.allowed) (T_false (has rows i) o.row) (T_false (has columns j) o.column)

-- so the least open value becomes 0
pub lowest_zero : (n : ℕ) (ok : ℕ → ℕ → Bool) (z : ℤ) (rows columns : ℕ) (working : List ℤ) → length working ≡ n * n → (l : Lowest n ok working rows columns z)
    → cell (pos 0) n (followed n ok z rows columns working) l.row l.column ≡ pos 0
lowest_zero n ok z rows columns working size l =
    open_falls n ok z rows columns working size l.row l.column l.row_below l.column_below l.is_open ∙ rw l.value (omega (signed, minus_parts z z))
