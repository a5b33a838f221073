-- Step 6 as a solver leaves it: by the place of the least value, with prices of a set of lines that change alike.
use mathlib.Core.Path.{◌≡◌, sym, ◌∙◌}
use mathlib.Core.Logic.{◌≢◌}
use mathlib.Core.Bool.{Bool, true, false}
use mathlib.Core.List.{List}
use Prim.Native.Nat.{ℕ, ◌*◌, ◌%◌, ◌^◌, ◌≤◌, ◌<◌}
use native.Mathlib.Omega.{arith}
use borrow.Author.Tests.{lt-ltb, le-ltb, eq-eqb, ne_eqb}
use lib.IntN.{ℤ, pos, neg_ℤ}
use lib.ListN.{length, get_or}
use lib.Seq.{ext_get_or}
use Rattle.lines.specs.Sets.{has, rest}
use Rattle.lines.specs.Square.{each}
use Rattle.lines.proofs.Tests.{by_cases}
use Rattle.lines.proofs.Walks.{alike, unlike}
use Rattle.lines.proofs.Squares.{length_each, each_at}
use Rattle.steps.specs.Steps as S
use Rattle.steps.specs.Steps.{Run, lowest, followed, lowered, raised, step6}
use Rattle.ground.specs.Prices.{shifted}

module _ (n : ℕ) (ok : ℕ → ℕ → Bool) (working : List ℤ) (r : Run) (budget : ℕ) (row_prices column_prices : List ℤ) {run : Run} where
  pub step6_none : n * n ≤ lowest n ok working r.rows r.columns → run ≡ S.to S.NoPairing r
      → ◌≡◌ {A = Run × List ℤ × List ℤ × List ℤ} (run, working, row_prices, column_prices) (step6 n ok budget r working row_prices column_prices)
  unfolding step6
  step6_none h e = rw (e, le-ltb (lowest n ok working r.rows r.columns) (n * n) h)

  module _ (h : lowest n ok working r.rows r.columns < n * n) where
    pub step6_spent : r.adjustments ≡ budget → run ≡ S.to S.Unfinished r
        → ◌≡◌ {A = Run × List ℤ × List ℤ × List ℤ} (run, working, row_prices, column_prices) (step6 n ok budget r working row_prices column_prices)
    unfolding step6
    step6_spent e q = rw (q, lt-ltb (lowest n ok working r.rows r.columns) (n * n) h, eq-eqb _ budget e)

    pub step6_adjusts : (z : ℤ) (working' row' column' : List ℤ) → z ≡ get_or working (lowest n ok working r.rows r.columns) (pos 0) → r.adjustments ≢ budget
        → working' ≡ followed n ok z r.rows r.columns working → row' ≡ lowered z r.rows row_prices → column' ≡ raised z r.columns column_prices
        → run ≡ S.adjusting r
        → ◌≡◌ {A = Run × List ℤ × List ℤ × List ℤ} (run, working', row', column') (step6 n ok budget r working row_prices column_prices)
    unfolding step6
    step6_adjusts z working' row' column' ez ne ew er ec e =
        rw (e, ew, er, ec, lt-ltb (lowest n ok working r.rows r.columns) (n * n) h, ne_eqb _ budget ne, ez)

-- ---- prices of a set of lines, the covered ones or the others

-- the same everywhere below the length
each_same : (f g : ℕ → ℤ → ℤ) (xs : List ℤ) → ((i : ℕ) (x : ℤ) → i < length xs → f i x ≡ g i x) → each f xs ≡ each g xs
each_same f g xs e =
    ext_get_or (pos 0) (each f xs) (each g xs) (length_each f xs ∙ sym (length_each g xs)) (λ i h.
    let l : i < length xs = rw (length_each f xs) at h in
    each_at (pos 0) f xs i l ∙ e i _ l ∙ sym (each_at (pos 0) g xs i l))

module _ (n s lines : ℕ) (z : ℤ) (prices : List ℤ) (size : length prices ≡ n) where
  -- those of the covered rows fall
  pub lowered_shifted : lines ≡ s % 2 ^ n → shifted (neg_ℤ z) lines prices ≡ lowered z s prices
  unfolding shifted lowered
  lowered_shifted e =
      each_same _ _ prices (λ i p h. by_cases (has lines i)
      (λ y. rw (y, alike n s true i (omega arith) (rw e at y)))
      (λ y. rw (y, unlike n s true i (omega arith) (rw e at y))))

  -- those of the uncovered columns rise
  pub raised_shifted : lines ≡ rest n s → shifted z lines prices ≡ raised z s prices
  unfolding shifted raised
  raised_shifted e =
      each_same _ _ prices (λ i p h. by_cases (has lines i)
      (λ y. rw (y, alike n s false i (omega arith) (rw e at y)))
      (λ y. rw (y, unlike n s false i (omega arith) (rw e at y))))
