-- The places of two lists, one for rows and one for columns.
use mathlib.Core.Path.{◌≡◌, refl, sym, ap, ◌∙◌}
use mathlib.Core.Logic.{dite}
use mathlib.Core.List.{List, [], ◌∷◌, ◌++◌}
use Prim.Native.Nat.{ℕ, zero, suc, ◌+◌, ◌≤◌, ◌<◌}
use native.Mathlib.Decide.{ℕ_discrete}
use native.Mathlib.Numerals.{add-one}
use native.Mathlib.Omega.{arith}
use lib.ListN.{length, get_or, set, length-append, get_or-append}
use Rattle.std.proofs.Common.{get_or-set_same, get_or-set_other}
use Rattle.std.proofs.Math.Seq.{get_or-append_seam}
use Rattle.matrices.specs.Path.{zipped}

pub zipped_length : (rows columns : List ℕ) (k : ℕ) → length (zipped rows columns k) ≡ k
unfolding zipped
zipped_length rows columns zero = refl
zipped_length rows columns (suc k) = simp length-append (omega (arith, zipped_length rows columns k))

-- so many places are recorded
pub recorded : (rows columns : List ℕ) (k : ℕ) {places : List (ℕ × ℕ)} → zipped rows columns k ≡ places → k ≡ length places
recorded rows columns k e = sym (zipped_length rows columns k) ∙ ap length e

zipped_set : (rows columns : List ℕ) (v x y k : ℕ) → k ≤ v → zipped (set rows v x) (set columns v y) k ≡ zipped rows columns k
unfolding zipped
zipped_set rows columns v x y zero h = refl
zipped_set rows columns v x y (suc k) h =
    rw (zipped_set rows columns v x y k (omega arith), get_or-set_other rows v k x 0 (omega arith), get_or-set_other columns v k y 0 (omega arith))

-- one place more
pub zipped_more : (rows columns : List ℕ) (k x y : ℕ) → k < length rows → k < length columns
    → zipped (set rows k x) (set columns k y) (k + 1) ≡ zipped rows columns k ++ ((x, y) ∷ [])
unfolding zipped
zipped_more rows columns k x y h l = rw (add-one, zipped_set rows columns k x y k (omega arith), get_or-set_same rows k x 0 h, get_or-set_same columns k y 0 l) refl

pub zipped_at : (rows columns : List ℕ) (k x : ℕ) → x < k → get_or (zipped rows columns k) x (0, 0) ≡ (get_or rows x 0, get_or columns x 0)
unfolding zipped
zipped_at rows columns zero x h = absurd (omega arith)
zipped_at rows columns (suc k) x h =
    dite (ℕ_discrete x k)
    (λ e. rw e (ap (λ l. get_or (zipped rows columns k ++ (get_or rows k 0, get_or columns k 0) ∷ []) l (0, 0)) (sym (zipped_length rows columns k))
    ∙ get_or-append_seam (zipped rows columns k) (get_or rows k 0, get_or columns k 0) [] (0, 0)))
    (λ ne. let l : x < length (zipped rows columns k) = omega (arith, zipped_length rows columns k) in
    get_or-append (zipped rows columns k) _ (0, 0) x l ∙ zipped_at rows columns k x (omega arith))
