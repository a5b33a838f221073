-- What holds at the ends of a run: a pairing on zeros of a price list is least, and the uncovered lines where no cell is open are a block.
use mathlib.Core.Path.{◌≡◌, refl, sym, ◌∙◌}
use mathlib.Core.Bool.{Bool, not}
use mathlib.Core.List.{List}
use Prim.Native.Nat.{ℕ, ◌<◌}
use native.Mathlib.Omega.{arith}
use lib.Dec.{T, T_not, eqb→eq, ltb→lt}
use lib.IntN.{ℤ, pos, ◌+ℤ◌}
use lib.ListN.{get_or}
use Rattle.lines.specs.Sum.{sumℤ}
use Rattle.lines.specs.First.{any}
use Rattle.lines.specs.Square.{cell, table}
use Rattle.lines.specs.Sets.{has, with, all, rest}
use Rattle.lines.proofs.Tests.{eqb_yes}
use Rattle.lines.proofs.Counts.{count_pos, count_all}
use Rattle.lines.proofs.Firsts.{any_yes}
use Rattle.lines.proofs.Squares.{length_table, table_at}
use Rattle.lines.proofs.Sets.{has_only, count_ones, all_lt, ones_all, has_rest, count_rest}
use Rattle.assignment.specs.Problem.{AllowedPairing, NoneBelow, Block, column, total}
use Rattle.assignment.specs.Prices.{PriceList}
use Rattle.assignment.proofs.Duality.{on_zeros_adds_up, on_zeros_least}
use Rattle.steps.specs.Steps.{Machine, star_in_row, star_count}
use Rattle.steps.specs.Going.{NoOpen, has_star, Starred, Search, Priced}
use Rattle.steps.proofs.Marks.{find_star, find_count}
use Rattle.steps.proofs.Phase as P

module _ (n : ℕ) (ok : ℕ → ℕ → Bool) where
  -- ---- all is paired

  module _ {working : List ℤ} {marks : List ℕ} (s : Starred n ok working marks) (full : star_count n marks ≡ n) where
    abbrev pub chosen_columns : List ℕ
    chosen_columns = table (star_in_row n marks) n

    starry : (i : ℕ) → i < n → s.star i < n
    starry i hi = ltb→lt (s.star i) n (count_all (has_star n s.star) n (sym (find_count s.shows) ∙ full) i hi)

    at_star : (i : ℕ) → i < n → column chosen_columns i ≡ s.star i
    at_star i hi = table_at 0 (star_in_row n marks) n i hi ∙ find_star s.shows i ∙ (omega (arith, starry i hi))

    pub paired : AllowedPairing n n ok chosen_columns
    paired = record {
      pairing = record {
        size = length_table (star_in_row n marks) n;
        below = λ i hi. rw (at_star i hi) (starry i hi);
        apart = λ i j hi hj e.
            cc (
              s.matching.there i hi (omega arith) (starry i hi),
              s.matching.there j hj (omega arith) (starry j hj),
              at_star i hi,
              at_star j hj,
            );
      };
      allowed = λ i hi. rw (at_star i hi) (s.zeros i hi (starry i hi)).0;
    }

    pub paired_zeros : (i : ℕ) → i < n → cell (pos 0) n working i (column chosen_columns i) ≡ pos 0
    paired_zeros i hi = rw (at_star i hi) (s.zeros i hi (starry i hi)).1

  -- ---- the price list

  module _ {cost : ℕ → ℕ → ℤ} {m : Machine} (p : Priced n ok cost m) where
    pub price_list : PriceList n ok cost (λ i. get_or m.row_prices i (pos 0)) (λ j. get_or m.column_prices j (pos 0)) (cell (pos 0) n m.working)
    price_list = record { equation = p.equation; whole = p.whole }

    module _ (s : Starred n ok m.working m.marks) (full : star_count n m.marks ≡ n) where
      pub paired_least : NoneBelow n n ok cost (total cost n (chosen_columns s full))
      paired_least = on_zeros_least price_list (chosen_columns s full) (paired s full) (paired_zeros s full)

      pub paired_adds_up : total cost n (chosen_columns s full)
          ≡ sumℤ (λ i. get_or m.row_prices i (pos 0)) n +ℤ sumℤ (λ j. get_or m.column_prices j (pos 0)) n
      paired_adds_up = on_zeros_adds_up price_list (chosen_columns s full) (paired s full) (paired_zeros s full)

  -- ---- no pairing

  pub step6_block : {working : List ℤ} {marks : List ℕ} {rows columns : ℕ} → Search n ok working marks rows columns → NoOpen n ok rows columns
      → Block n n ok (has (rest n rows)) (has (rest n columns))
  step6_block {rows = rows} {columns = columns} s none = record {
    shut = λ i j hi hj t u v. none i j hi hj (record { row = rw (has_rest n rows i hi) at t; column = rw (has_rest n columns j hj) at u; allowed = v });
    large = rw (count_rest n rows, count_rest n columns) (P.block s.phase s.missing);
  }

  pub dead_block : (i : ℕ) → i < n → T (not (any (ok i) n)) → Block n n ok (has (with 0 i)) (has (all n))
  dead_block i hi dead = record {
    shut = λ a b ha hb t u v.
        let e : i ≡ a = eqb→eq i a (rw (has_only i a) at t) in
        T_not (any (ok i) n) dead (any_yes (ok i) n b hb (rw e v));
    large = omega (arith, count_pos (has (with 0 i)) n i hi (rw (has_only i i) (eqb_yes i i refl)), count_ones n (all n) (all_lt n), ones_all n);
  }
