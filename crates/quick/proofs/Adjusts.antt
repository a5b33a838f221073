-- Law A, adjust. In the open cells the working values fall by what the rise grows by, so no key moves.
use mathlib.Core.Path.{◌≡◌, sym, ap, ◌∙◌}
use mathlib.Core.Bool.{Bool}
use mathlib.Core.List.{List}
use Prim.Native.Nat.{ℕ, ◌*◌, ◌<◌}
use lib.IntN.{ℤ, pos, ◌+ℤ◌, ◌-ℤ◌}
use lib.ListN.{length}
use Rattle.lines.specs.Square.{cell}
use Rattle.lines.proofs.Signed.{signed, plus_parts, minus_parts}
use Rattle.steps.specs.Steps.{followed}
use Rattle.steps.specs.Going.{Open}
use Rattle.steps.proofs.Adjusted.{open_falls}
use Rattle.keyed.specs.Keys.{pack}
use Rattle.keyed.specs.Best.{key_at, KeyIn, Keys, Best}

module _ (B n : ℕ) (ok : ℕ → ℕ → Bool) (limit : ℤ) (working : List ℤ) (rows columns : ℕ) (risen z : ℤ) (size : length working ≡ n * n) where
  abbrev pub after : List ℤ
  after = followed n ok z rows columns working

  same_key : (i j : ℕ) → i < n → j < n → Open ok rows columns i j → key_at B n ok limit working risen i j ≡ key_at B n ok limit after (risen +ℤ z) i j
  same_key i j hi hj o =
      let w = cell (pos 0) n working i j in
      let e : cell (pos 0) n after i j ≡ w -ℤ z = open_falls n ok z rows columns working size i j hi hj o in
      let f : w +ℤ risen ≡ (w -ℤ z) +ℤ (risen +ℤ z) = omega (signed, plus_parts w risen, minus_parts w z, plus_parts risen z, plus_parts (w -ℤ z) (risen +ℤ z)) in
      ap (λ x. pack B x j i) (f ∙ ap (λ x. x +ℤ (risen +ℤ z)) (sym e))

  in_row_adjusted : {y : ℤ} {i : ℕ} → i < n → KeyIn B n ok limit working rows columns risen y i → KeyIn B n ok limit after rows columns (risen +ℤ z) y i
  in_row_adjusted {i = i} hi h = record {
    column = h.column;
    column_below = h.column_below;
    is_open = h.is_open;
    value = h.value ∙ same_key i h.column hi h.column_below h.is_open;
  }

  pub keys_adjusted : {key : ℕ → ℤ} → Keys B n ok limit working rows columns risen key → Keys B n ok limit after rows columns (risen +ℤ z) key
  keys_adjusted k = record {
    low = λ i j hi hj o. rw (same_key i j hi hj o) at (k.low i j hi hj o);
    hit = λ i hi t near. in_row_adjusted hi (k.hit i hi t near);
  }

  pub best_adjusted : {best : ℤ} → Best B n ok limit working rows columns risen best → Best B n ok limit after rows columns (risen +ℤ z) best
  best_adjusted b = record {
    low = λ i j hi hj o. rw (same_key i j hi hj o) at (b.low i j hi hj o);
    hit = λ near. let h = b.hit near in record { row = h.row; row_below = h.row_below; in_row = in_row_adjusted h.row_below h.in_row };
  }
