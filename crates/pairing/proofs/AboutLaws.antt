-- What the solver's promise says of the file: its cells are the file's pairs, so the columns are a pairing of fragments with events.
use mathlib.Core.Path.{◌≡◌, refl, sym, ap, subst, ◌∙◌}
use mathlib.Core.Logic.{◌⊎◌, inl, inr}
use mathlib.Core.Bool.{Bool, true, false, not, cond, ◌&&◌}
use mathlib.Core.List.{List}
use Prim.Native.Nat.{ℕ, ◌*◌, ◌/◌, ◌%◌, ◌≤◌, ◌<◌}
use native.Mathlib.Omega.{arith}
use lib.Dec.{T, eqb, ltb, nltb→le}
use lib.IntN.{pos}
use lib.Signed.{◌≤ℤ◌}
use lib.ListN.{get_or}
use borrow.Author.Tests.{le-ltb}
use Rattle.lines.specs.Square.{square}
use Rattle.lines.specs.Sets.{has}
use Rattle.lines.proofs.Tests.{T_true}
use Rattle.lines.proofs.Squares.{table_at, length_square, square_at}
use Rattle.lines.proofs.Sumsℤ.{sumℤ_ext}
use Rattle.assignment.specs.Problem.{column, AllowedPairing, Block, total}
use Rattle.steps.specs.Lent.{Buffers, allows, cost_at, allowed, cost}
use Rattle.steps.specs.Refusal as R
use Rattle.steps.specs.Promise.{Fit, Promise}
use Rattle.pairing.specs.declared.Pairs.{Pairs}
use Rattle.storm_case.specs.Scan.{Scan}
use Rattle.storm_case.specs.Case.{row_area, column_area, clock_error, may_pair, pair_cost, mask_byte}
use Rattle.pairing.specs.Pair.{front, enough, asked, SolvedBy, clock_cost, AboutFile}
use Rattle.storm_case.proofs.ScanLaws.{Filled}

-- ---- the cells of a file

module _ (file : List ℕ) (s : Scan) where
  allowed_is : (i j : ℕ) → i < s.n → j < s.n → allowed (asked file s) i j ≡ may_pair file s i j
  unfolding allows mask_byte
  allowed_is i j hi hj = ap (λ b. eqb b 1) (square_at 1 (mask_byte file s) s.n i j hi hj) ∙ one (may_pair file s i j)
    where
      one : (b : Bool) → eqb (cond b 1 0) 1 ≡ b
      one true = refl
      one false = refl

  cost_is : (i j : ℕ) → i < s.n → j < s.n → T (may_pair file s i j) → cost (asked file s) i j ≡ clock_cost file s i j
  unfolding cost_at pair_cost
  cost_is i j hi hj ok = square_at (pos 0) (pair_cost file s) s.n i j hi hj ∙ rw (T_true (may_pair file s i j) ok)

  -- ---- the same pairings

  to_file : {p : List ℕ} → AllowedPairing s.n s.n (allowed (asked file s)) p → AllowedPairing s.n s.n (may_pair file s) p
  to_file {p} a = record {
    pairing = a.pairing;
    allowed = λ i h. subst T (allowed_is i (column p i) h (a.pairing.below i h)) (a.allowed i h);
  }

  from_file : {p : List ℕ} → AllowedPairing s.n s.n (may_pair file s) p → AllowedPairing s.n s.n (allowed (asked file s)) p
  from_file {p} a = record {
    pairing = a.pairing;
    allowed = λ i h. subst T (sym (allowed_is i (column p i) h (a.pairing.below i h))) (a.allowed i h);
  }

  total_is : {p : List ℕ} → AllowedPairing s.n s.n (may_pair file s) p → total (cost (asked file s)) s.n p ≡ total (clock_cost file s) s.n p
  unfolding total
  total_is {p} a = sumℤ_ext _ _ s.n (λ i h. cost_is i (column p i) h (a.pairing.below i h) (a.allowed i h))

  -- ---- the input is fit

  module _ (full : Filled s) (before : Buffers) (room : T (R.room (s.n * s.n) s.n before)) where
    fit : Fit 64 (asked file s) before
    unfolding square R.bad_mask R.bad_cost R.out_of_range mask_byte pair_cost may_pair
    fit = record {
      some = full.some;
      most = full.small;
      costs_length = length_square (pair_cost file s) s.n;
      mask_length = length_square (mask_byte file s) s.n;
      room = room;
      flags = λ q h. subst (λ b. T (not (ltb 1 b))) (sym (mask_at q h)) (low (may_pair file s (q / s.n) (q % s.n)));
      range = λ q h. rw (mask_at q h, table_at (pos 0) (λ q. pair_cost file s (q / s.n) (q % s.n)) (s.n * s.n) q h)
          (near (eqb (row_area file s (q / s.n)) (column_area file s (q % s.n))) (ltb s.window (clock_error file s (q / s.n) (q % s.n))) (nltb→le _ _));
    }
      where
        mask_at : (q : ℕ) → q < s.n * s.n → get_or (square (mask_byte file s) s.n) q 1 ≡ cond (may_pair file s (q / s.n) (q % s.n)) 1 0
        mask_at q h = table_at 1 _ (s.n * s.n) q h

        low : (b : Bool) → T (not (ltb 1 (cond b 1 0)))
        low true = tt
        low false = tt

        -- an allowed difference is at most the window, which is in range
        near : (area far : Bool) {e : ℕ} → (T (not far) → e ≤ s.window)
            → T (not (eqb (cond (area && not far) 1 0) 1 && R.out_of_range (cond (area && not far) (pos e) (pos 0))))
        near false far h = tt
        near true true h = tt
        near true false {e} h = rw (le-ltb 1_000_000_000 e (omega (arith, h tt, full.low))) tt

  -- ---- the sentence about the file

  module _ (full : Filled s) {before after : Buffers} {p : Pairs} (room : T (R.room (s.n * s.n) s.n (front s.n before)))
      (solved : SolvedBy s.n (asked file s).costs (asked file s).mask s.window before p after) where
    promise : Promise 64 (asked file s) (front s.n before) solved.answer (front s.n after)
    promise = solved.solver

    same_number : p.number ≡ solved.answer.number
    same_number = ap (λ (q : Pairs). q.number) solved.given

    same_total : p.total ≡ solved.answer.total
    same_total = ap (λ (q : Pairs). q.total) solved.given

    zero_or_six : (p.number ≡ 0) ⊎ (p.number ≡ 6)
    unfolding enough
    zero_or_six = go (promise.settled.passed (fit full (front s.n before) room))
      where
        number : ℕ
        number = solved.answer.number

        go : (number ≡ 0) ⊎ (number ≡ 6) ⊎ (number ≡ 7) → (p.number ≡ 0) ⊎ (p.number ≡ 6)
        go (inl e) = inl (same_number ∙ e)
        go (inr (inl e)) = inr (same_number ∙ e)
        go (inr (inr e)) = absurd (promise.enough (omega arith) e)

    pub about_file : AboutFile file s p (front s.n after).columns
    about_file = record {
      settled = zero_or_six;
      pairing = λ e. to_file (promise.pairing (sym same_number ∙ e));
      totalled = λ e. let z = sym same_number ∙ e in same_total ∙ promise.totalled z ∙ total_is (to_file (promise.pairing z));
      least = λ e q a. subst (λ t. p.total ≤ℤ t) (total_is a) (subst (λ t. t ≤ℤ total (cost (asked file s)) s.n q) (sym same_total) (promise.least (sym same_number ∙ e) q (from_file a)));
      block = λ e. block (promise.block (sym same_number ∙ e));
      impossible = λ e q a. promise.impossible (sym same_number ∙ e) q (from_file a);
    }
      where
        block : Block s.n s.n (allowed (asked file s)) (has solved.answer.block_rows) (has solved.answer.block_columns)
            → Block s.n s.n (may_pair file s) (has p.block_rows) (has p.block_columns)
        block b = rw solved.given record {
          shut = λ i j hi hj r c ok. b.shut i j hi hj r c (subst T (sym (allowed_is i j hi hj)) ok);
          large = b.large;
        }
