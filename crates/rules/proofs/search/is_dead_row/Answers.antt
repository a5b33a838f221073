-- `is_dead_row` meets its contract: no cell that the loop passed is allowed.
use mathlib.Core.Path.{◌≡◌, sym, ap, ◌∙◌}
use mathlib.Core.Bool.{not}
use mathlib.Core.List.{List}
use Prim.Native.Nat.{ℕ, ◌+◌, ◌-◌, ◌*◌, ◌<◌}
use native.Mathlib.Omega.{arith}
use lib.ListN.{length, get_or, take, drop}
use Rattle.std.proofs.lemmas.List.{get_or-drop, get_or-take, length-drop, length-take-le}
use Rattle.lines.proofs.Loops.{missed_more, hit_any, missed_any}
use Rattle.lines.proofs.Squares.{place_lt}
use Rattle.steps.specs.Refusal.{dead_row}
use Rattle.steps.proofs.Masks.{allows_yes, allows_no}
use Rattle.rules.proofs.search.is_dead_row.Goals as goal

-- the row that the code takes out of the mask, and its bytes
module _ (n row : ℕ) (mask : List ℕ) (size : length mask ≡ n * n) (below : row < n) where
  inside : (j : ℕ) → j < n → row * n + j < length mask
  inside j h = omega (arith, place_lt n row j below h)

  abbrev row_bytes : List ℕ
  row_bytes = take (row * n + n - row * n) (drop (row * n) mask)

  long : length row_bytes ≡ n
  long = length-take-le (row * n + n - row * n) (drop (row * n) mask) (omega (arith, length-drop (row * n) mask, inside (n - 1) (omega arith))) ∙ omega arith

  byte : (j : ℕ) → j < length row_bytes → (j < n) × (get_or row_bytes j 0 ≡ get_or mask (row * n + j) 0)
  byte j h = let l : j < n = omega (arith, long) in (l, get_or-take (row * n + n - row * n) (drop (row * n) mask) j 0 (omega arith) ∙ get_or-drop (row * n) mask j 0)

pub returns-then-byte-eq1 : goal.returns-then-byte-eq1
unfolding dead_row
returns-then-byte-eq1 c =
    let r = c.requires in
    let b = byte _ c.args.row c.args.mask.now r.0 r.1 _ c.loop-byte-test.true in
    sym (ap not (hit_any _ _ _ b.0 (allows_yes _ _ _ _ (inside _ _ _ r.0 r.1 _ b.0) (sym b.1 ∙ c.if-byte-eq1.true))))

pub loop-byte-preserved : goal.loop-byte-preserved
loop-byte-preserved c =
    let r = c.requires in
    let b = byte _ c.args.row c.args.mask.now r.0 r.1 _ c.loop-byte-test.true in
    missed_more (allows_no _ _ _ _ (inside _ _ _ r.0 r.1 _ b.0) (λ e. c.if-byte-eq1.false (b.1 ∙ e))) c.loop-byte.invariant

pub returns : goal.returns
unfolding dead_row
returns c =
    let r = c.requires in
    sym (ap not (missed_any _ (rw (long _ c.args.row c.args.mask.now r.0 r.1) at c.loop-byte-test.false) c.loop-byte.invariant))
