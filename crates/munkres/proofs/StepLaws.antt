-- Step 4 as the code leaves it: what its search answered, and the step's result in that form.
use mathlib.Core.Path.{◌≡◌, refl, sym, ap}
use mathlib.Core.Bool.{Bool, true, false, cond}
use mathlib.Core.List.{List}
use Prim.Native.Nat.{ℕ, ◌+◌, ◌*◌, ◌<◌}
use borrow.Author.Tests.{lt-ltb, le-ltb}
use lib.Dec.{ltb, ltb→lt}
use lib.IntN.{ℤ}
use lib.ListN.{set}
use Rattle.steps.specs.Steps as S
use Rattle.steps.specs.Steps.{Run, star_in_row, zero_in_column, zero_column, step4}
use Rattle.steps.proofs.Turns.{zero_found}
use Rattle.std.specs.Prelude.{Option, Some, None}
use Rattle.lines.specs.First.{found}
use Rattle.lines.proofs.Firsts.{some_found, none_found}
use Rattle.matrices.specs.Cell.{found_zero}

module _ (n : ℕ) (ok : ℕ → ℕ → Bool) (working : List ℤ) (r : Run) where
  j₀ : ℕ
  j₀ = zero_column n ok working r.rows r.columns

  i₀ : ℕ
  i₀ = zero_in_column n ok working r.rows r.columns j₀

  pub record FoundZero (i j : ℕ) : Type 0 where
    pub row : i ≡ zero_in_column n ok working r.rows r.columns j
    pub column : j ≡ zero_column n ok working r.rows r.columns
    pub row_below : i < n
    pub column_below : j < n

  pub found_at : {i j : ℕ} → found_zero n ok working r.rows r.columns ≡ Some (i, j) → FoundZero i j
  unfolding found_zero j₀ i₀
  found_at {i} {j} e = go (ltb j₀ n) refl e
    where
      go : (b : Bool) → ltb j₀ n ≡ b → cond {A = Option (ℕ × ℕ)} b (Some (i₀, j₀)) None ≡ Some (i, j) → FoundZero i j
      go true t q =
          let h : j₀ < n = ltb→lt _ n (rw t tt) in
          let p : ◌≡◌ {A = ℕ × ℕ} (i₀, j₀) (i, j) = cc in
          let ei = ap (λ (p : ℕ × ℕ). p.0) p in
          let ej = ap (λ (p : ℕ × ℕ). p.1) p in
          record { row = rw ej at (sym ei); column = sym ej; row_below = rw ei at (zero_found n ok working r.rows r.columns h).row_below; column_below = rw ej at h }
      go false t q = cc

  found_none : found_zero n ok working r.rows r.columns ≡ None → ltb j₀ n ≡ false
  unfolding found_zero j₀ i₀
  found_none e = go (ltb j₀ n) refl e
    where
      go : (b : Bool) → ltb j₀ n ≡ b → cond {A = Option (ℕ × ℕ)} b (Some (i₀, j₀)) None ≡ None → ltb j₀ n ≡ false
      go true t q = cc
      go false t q = t

  module _ (marks : List ℕ) {run : Run} where
    pub step4_covers : (i j s : ℕ) → FoundZero i j → Some s ≡ found n (star_in_row n (set marks (i * n + j) 2) i) → run ≡ S.covering i s r
        → ◌≡◌ {A = Run × List ℕ} (run, set marks (i * n + j) 2) (step4 n ok working r marks)
    unfolding step4
    step4_covers i j s f es e =
        let star = some_found n _ s (sym es) in
        rw (e, ← f.column, ← f.row, star.0, lt-ltb j n f.column_below, lt-ltb s n star.1)

    pub step4_reaches : (i j : ℕ) → FoundZero i j → None ≡ found n (star_in_row n (set marks (i * n + j) 2) i) → run ≡ S.reaching i j r
        → ◌≡◌ {A = Run × List ℕ} (run, set marks (i * n + j) 2) (step4 n ok working r marks)
    unfolding step4
    step4_reaches i j f es e = rw (e, ← f.column, ← f.row, lt-ltb j n f.column_below, le-ltb _ n (none_found n _ (sym es)))

    pub step4_none : found_zero n ok working r.rows r.columns ≡ None → run ≡ S.to S.Step6 r → ◌≡◌ {A = Run × List ℕ} (run, marks) (step4 n ok working r marks)
    unfolding step4 j₀
    step4_none e q = rw (found_none e, q)
