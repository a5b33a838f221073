-- Step 1 reads no cost of a forbidden cell: where every row has an allowed cell, the start depends on the costs of allowed cells alone.
use mathlib.Core.Path.{◌≡◌, refl, ap, ◌∙◌}
use mathlib.Core.Bool.{Bool}
use Prim.Native.Nat.{ℕ, ◌<◌}
use lib.Dec.{T}
use lib.IntN.{ℤ}
use Rattle.lines.proofs.Tests.{cond_same}
use Rattle.lines.specs.First.{any, least}
use Rattle.lines.proofs.Firsts.{any_is}
use Rattle.lines.proofs.Leasts.{least_is, least_ext}
use Rattle.lines.proofs.Squares.{table_ext, square_ext}
use Rattle.steps.specs.Steps.{row_price, excess, start}

module _ (n : ℕ) (ok : ℕ → ℕ → Bool) (cost cost' : ℕ → ℕ → ℤ) (rows : (i : ℕ) → i < n → T (any (ok i) n))
    (same : (i j : ℕ) → i < n → j < n → T (ok i j) → cost i j ≡ cost' i j) where
  row_price_same : (i : ℕ) → i < n → row_price n ok cost i ≡ row_price n ok cost' i
  unfolding row_price
  row_price_same i h =
      let v = least (ok i) (cost i) n in
      let a = any_is (ok i) n (rows i h) in
      let l = least_is (ok i) (cost i) n in
      let b : v < n = (l.low a.0 a.1 a.2).0 in
      same i v h b (l.hit b) ∙ ap (cost' i) (least_ext (ok i) (ok i) (cost i) (cost' i) n (λ j k. refl) (λ j k. same i j h k))

  pub start_same : start n ok cost ≡ start n ok cost'
  unfolding start excess
  start_same =
      rw (
        table_ext (row_price n ok cost) (row_price n ok cost') n row_price_same,
        square_ext (excess n ok cost) (excess n ok cost') n (λ i j hi hj.
            cond_same (ok i j) _ _ _ (λ t. rw (same i j hi hj t, row_price_same i hi))),
      )
