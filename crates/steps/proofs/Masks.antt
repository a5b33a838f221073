-- What a mask byte that the code reads says of its cell. Past the end the code's reading is 0, and the definitions' is 1.
use mathlib.Core.Path.{◌≡◌}
use mathlib.Core.Bool.{true, false, not, ◌&&◌}
use mathlib.Core.List.{List}
use Prim.Native.Nat.{ℕ, ◌+◌, ◌*◌, ◌≤◌, ◌<◌}
use borrow.Author.Tests.{eq-eqb, ne_eqb, lt-ltb, le-ltb}
use lib.Dec.{T, eqb, ltb, nltb→le}
use lib.IntN.{ℤ, pos}
use lib.ListN.{length, get_or}
use Rattle.lines.proofs.Squares.{get_or_inside}
use Rattle.steps.specs.Lent.{allows}
use Rattle.steps.specs.Refusal.{bad_mask, out_of_range, bad_cost}

module _ (mask : List ℕ) (q : ℕ) (h : q < length mask) where
  byte : get_or mask q 1 ≡ get_or mask q 0
  byte = get_or_inside 1 0 mask q h

  one : get_or mask q 0 ≡ 1 → eqb (get_or mask q 1) 1 ≡ true
  one e = rw byte (eq-eqb _ 1 e)

  other : (get_or mask q 0 ≡ 1 → ⊥) → eqb (get_or mask q 1) 1 ≡ false
  other ne = rw byte (ne_eqb _ 1 ne)

  pub mask_bad : 1 < get_or mask q 0 → bad_mask mask q ≡ true
  unfolding bad_mask
  mask_bad l = rw byte (lt-ltb 1 _ l)

  pub mask_flag : T (not (bad_mask mask q)) → get_or mask q 0 ≤ 1
  unfolding bad_mask
  mask_flag t = rw byte at (nltb→le 1 (get_or mask q 1) t)

  pub mask_good : get_or mask q 0 ≤ 1 → bad_mask mask q ≡ false
  unfolding bad_mask
  mask_good l = rw byte (le-ltb 1 _ l)

  -- what the code asks of a cell
  pub mask_is : bad_mask mask q ≡ ltb 1 (get_or mask q 0)
  unfolding bad_mask
  mask_is = rw byte

  pub cost_is : (costs : List ℤ) → bad_cost costs mask q ≡ (eqb (get_or mask q 0) 1 && out_of_range (get_or costs q (pos 0)))
  unfolding bad_cost
  cost_is costs = rw byte

module _ (n : ℕ) (mask : List ℕ) (i j : ℕ) (h : i * n + j < length mask) where
  pub allows_is : allows n mask i j ≡ eqb (get_or mask (i * n + j) 0) 1
  unfolding allows
  allows_is = rw (byte mask (i * n + j) h)

  pub allows_yes : get_or mask (i * n + j) 0 ≡ 1 → allows n mask i j ≡ true
  unfolding allows
  allows_yes = one mask (i * n + j) h

  pub allows_no : (get_or mask (i * n + j) 0 ≡ 1 → ⊥) → allows n mask i j ≡ false
  unfolding allows
  allows_no = other mask (i * n + j) h
