-- Theorems of what fits none: a row is said to fit no event exactly where the case allows it none, and the same of an event.
use mathlib.Core.Path.{◌≡◌, refl, ◌∙◌}
use mathlib.Core.Bool.{Bool, true, false, cond}
use mathlib.Core.List.{List}
use Prim.Native.Nat.{ℕ, ◌+◌, ◌*◌, ◌<◌}
use native.Mathlib.Omega.{arith}
use lib.Dec.{eqb}
use lib.ListN.{length, get_or-append}
use Rattle.lines.specs.First.{any}
use Rattle.lines.specs.Square.{cell, square}
use Rattle.lines.proofs.Firsts.{first_ext}
use Rattle.lines.proofs.Squares.{place_lt, length_square, square_at}
use Rattle.storm_case.specs.Scan.{Scan}
use Rattle.storm_case.specs.Case as case
use Rattle.storm_case.specs.Case.{mask_byte, filled}
use Rattle.case_words.specs.Unfit.{may_pair, row_fits, event_fits}
use Rattle.pairing.specs.declared.Pairs.{Pairs}
use Rattle.pairing.specs.Pair.{Loan, Solved}

any_ext : (a b : ℕ → Bool) (n : ℕ) → ((i : ℕ) → i < n → a i ≡ b i) → any a n ≡ any b n
unfolding any
any_ext a b n h = rw (first_ext a b n h)

module _ {file : List ℕ} {s : Scan} {before : Loan} {p : Pairs} {after : Loan} (y : Solved file s before p after) where
  abbrev n : ℕ
  n = s.n

  -- the mask has 1 where the case allows the pair, and 0 elsewhere
  pub mask_at : (i j : ℕ) → i < n → j < n → cell 0 n after.mask i j ≡ mask_byte file s i j
  unfolding filled
  mask_at i j hi hj =
      let inside : i * n + j < length (square (mask_byte file s) n) = omega (arith, place_lt n i j hi hj, length_square (mask_byte file s) n) in
      rw y.mask (get_or-append (square (mask_byte file s) n) _ 0 (i * n + j) inside ∙ square_at 0 (mask_byte file s) n i j hi hj)

  byte_said : (b : Bool) (v : ℕ) → v ≡ cond b 1 0 → eqb v 1 ≡ b
  byte_said true v e = rw e refl
  byte_said false v e = rw e refl

  pair_said : (i j : ℕ) → i < n → j < n → may_pair n after.mask i j ≡ case.may_pair file s i j
  unfolding may_pair mask_byte
  pair_said i j hi hj = byte_said (case.may_pair file s i j) (cell 0 n after.mask i j) (mask_at i j hi hj)

  pub row_said : (i : ℕ) → i < n → row_fits n after.mask i ≡ any (λ j. case.may_pair file s i j) n
  unfolding row_fits
  row_said i h = any_ext _ _ n (λ j l. pair_said i j h l)

  pub event_said : (j : ℕ) → j < n → event_fits n after.mask j ≡ any (λ i. case.may_pair file s i j) n
  unfolding event_fits
  event_said j h = any_ext _ _ n (λ i l. pair_said i j l h)
