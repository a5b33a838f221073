-- How large prices and working values can become, on functions alone. All follows from the column prices: a row without a star keeps its price, and the
-- price of a row with a star is a cost less the price of the star's column.
use mathlib.Core.Path.{◌≡◌, ap}
use mathlib.Core.Bool.{Bool, true, false, not, cond}
use mathlib.Core.Logic.{dite}
use Prim.Native.Nat.{ℕ, suc, ◌+◌, ◌*◌, ◌≤◌, ◌<◌, max}
use native.Mathlib.Nat.{mul-le-mul_left}
use native.Mathlib.Omega.{arith}
use native.Mathlib.Decide.{dec_lt}
use lib.Dec.{T, T_not, ltb}
use lib.IntN.{ℤ, pos, neg_ℤ, ◌+ℤ◌, ◌-ℤ◌}
use lib.Signed.{◌≤ℤ◌}
use Rattle.lines.specs.Count.{count}
use Rattle.lines.proofs.Tests.{cond_ind, T_true, T_false}
use Rattle.lines.specs.Put.{put}
use Rattle.lines.proofs.Puts.{put_case}
use Rattle.lines.proofs.Counts.{count_ext, count_put, count_le, bit_yes, bit_no}
use Rattle.lines.specs.Bounds.{Within}
use Rattle.lines.proofs.Signed.{P, signed, plus_parts, minus_parts, neg_parts, whole}
use Rattle.steps.specs.Bounds.{stars, Limits, limit}

-- a cell of working value 0: row price and column price add up to its cost
pub tight : {C : ℕ} {k w : ℤ} (x y : ℤ) → Within C k → k ≡ x +ℤ y +ℤ w → w ≡ pos 0 → Within C (x +ℤ y)
tight {C} {k} {w} x y b e z = record {
  above = omega (signed, b.above, plus_parts (x +ℤ y) w);
  below = omega (signed, b.below, plus_parts (x +ℤ y) w);
}

-- a run that starts with the row minima and no column prices
pub limit_fresh : (n C : ℕ) → limit n C C 0 ≡ 2 * C + 4 * C * n
limit_fresh n C = omega arith

-- at the start of a run, whatever is covered and starred
pub limits_start : {n C A B : ℕ} {star row : ℕ → ℕ} {r c : ℕ → Bool} {rp cp : ℕ → ℤ} → ((i : ℕ) → i < n → Within A (rp i)) → ((j : ℕ) → j < n → Within B (cp j))
    → Limits n C A B star row r c rp cp
limits_start {n} {C} {A} {B} {star} {row} {r} {c} {rp} {cp} rows columns = record {
  sunk = 0;
  before = 0;
  low = λ j h. (columns j h).above;
  high = λ j h. omega (signed, (columns j h).below);
  bare = λ j h b. omega (signed, (columns j h).above, neg_parts (pos B), plus_parts (cp j) (pos B));
  flat = λ i h b. rows i h;
  near = λ j h u. omega (signed, (columns j h).above, neg_parts (pos B), plus_parts (cp j) (pos (B + 2 * C * count r n)));
  still = λ j h t. omega (signed, (columns j h).below);
  rise = omega arith;
  past = omega arith;
}

-- ---- what each step keeps

module _ {n C A B : ℕ} {star row : ℕ → ℕ} {r c : ℕ → Bool} {rp cp : ℕ → ℤ} (l : Limits n C A B star row r c rp cp) where
  -- the zero (i, j) was primed: row i is covered, and the column of its star is not
  pub limits_primed : (i j : ℕ) → i < n → j < n → T (not (r i)) → T (not (c j)) → Within C (rp i +ℤ cp j) → Within C (rp i +ℤ cp (star i))
      → Limits n C A B star row (put r i true) (put c (star i) false) rp cp
  limits_primed i j hi hj u v b d = record {
    sunk = l.sunk;
    before = l.before;
    low = l.low;
    high = l.high;
    bare = l.bare;
    flat = l.flat;
    near = λ k h t. rw more (put_case (λ x. T (not x) → Near k) c (star i) false k (λ e f. rw e far) (λ ne f. kept k h f) t);
    still = λ k h. put_case (λ x. T x → cp k ≤ℤ pos (B + l.before)) c (star i) false k (λ e t. absurd t) (λ ne t. l.still k h t);
    rise = rw more (omega (arith, l.rise));
    past = l.past;
  }
    where
      more : count (put r i true) n ≡ suc (count r n)
      more = omega (arith, count_put r i true n hi, bit_no (r i) (T_not (r i) u), bit_yes true tt)

      Near : ℕ → Type 0
      Near k = pos l.sunk ≤ℤ (cp k +ℤ pos (B + 2 * C * suc (count r n)))

      kept : (k : ℕ) → k < n → T (not (c k)) → Near k
      kept k h f =
          omega (signed, l.near k h f, plus_parts (cp k) (pos (B + 2 * C * count r n)), plus_parts (cp k) (pos (B + 2 * C * suc (count r n))))

      -- two costs of row i, at most 2 C apart
      far : Near (star i)
      far = omega (
        signed,
        l.near j hj v,
        b.below,
        d.above,
        neg_parts (pos C),
        plus_parts (rp i) (cp j),
        plus_parts (rp i) (cp (star i)),
        plus_parts (cp j) (pos (B + 2 * C * count r n)),
        plus_parts (cp (star i)) (pos (B + 2 * C * suc (count r n))),
      )

  -- the sum after a minimum m, from an uncovered column whose price is then at most x
  reached : (j m x : ℕ) → j < n → T (not (c j)) → (cp j +ℤ pos m) ≤ℤ pos x → l.sunk + m ≤ x + B + 2 * C * count r n
  reached j m x h u b = omega (signed, l.near j h u, plus_parts (cp j) (pos (B + 2 * C * count r n)), plus_parts (cp j) (pos m))

  -- the phase ended with the prime (i, j): row i had no star
  pub limits_augmented : (star' row' : ℕ → ℕ) (c' : ℕ → Bool) (i j : ℕ)
      → ((k : ℕ) → k < n → n ≤ star' k → n ≤ star k) → ((k : ℕ) → k < n → n ≤ row' k → n ≤ row k) → stars n star < stars n star'
      → ((k : ℕ) → k < n → T (not (c' k)) → n ≤ row' k) → count r n ≤ stars n star
      → i < n → j < n → n ≤ star i → T (not (c j)) → Within C (rp i +ℤ cp j)
      → Limits n C A B star' row' (λ k. false) c' rp cp
  limits_augmented star' row' c' i j fs fr more open' covered hi hj none u b = record {
    sunk = l.sunk;
    before = l.sunk;
    low = l.low;
    high = l.high;
    bare = λ k h t. l.bare k h (fr k h t);
    flat = λ k h t. l.flat k h (fs k h t);
    near = λ k h t.
        omega (signed, l.bare k h (fr k h (open' k h t)), plus_parts (cp k) (pos B), plus_parts (cp k) (pos (B + 2 * C * count (λ k. false) n)));
    still = λ k h t. l.high k h;
    rise = omega arith;
    past = omega (
      arith,
      reached j 0 (C + A) hj u (omega (signed, b.below, (l.flat i hi none).above, neg_parts (pos A), plus_parts (rp i) (cp j), plus_parts (cp j) (pos 0))),
      mul-le-mul_left C covered,
      mul-le-mul_left C more,
    );
  }

  -- step 6 by z, the working value of the cell (a, b)
  module _ (z : ℤ) (a b : ℕ) (least : pos 0 ≤ℤ z) (ha : a < n) (hb : b < n) (free : T (not (c b))) (cost : Within C (rp a +ℤ cp b +ℤ z))
      (across : star a < n → T (c (star a))) (zero : star a < n → Within C (rp a +ℤ cp (star a))) where
    -- that cell becomes a zero
    zeroed : (x : ℕ) → (pos C -ℤ rp a) ≤ℤ pos x → l.sunk + P z ≤ x + B + 2 * C * count r n
    zeroed x h = reached b (P z) x hb free (omega (
      signed,
      whole z least,
      cost.below,
      minus_parts (pos C) (rp a),
      plus_parts (rp a) (cp b),
      plus_parts (rp a +ℤ cp b) z,
      plus_parts (cp b) (pos (P z)),
    ))

    risen : l.sunk + P z ≤ max (l.before + 2 * B + 2 * C) (C + A + B) + 2 * C * count r n
    risen = dite (dec_lt (star a) n)
        (λ s. omega (
          arith,
          zeroed (2 * C + B + l.before) (omega (
            signed,
            (zero s).above,
            l.still (star a) s (across s),
            neg_parts (pos C),
            minus_parts (pos C) (rp a),
            plus_parts (rp a) (cp (star a)),
          )),
        ))
        (λ s. omega (arith, zeroed (C + A) (omega (signed, (l.flat a ha (omega arith)).above, neg_parts (pos A), minus_parts (pos C) (rp a)))))

    pub limits_adjusted : ((i : ℕ) → i < n → n ≤ star i → T (not (r i))) → ((j : ℕ) → j < n → n ≤ row j → T (not (c j)))
        → Limits n C A B star row r c (λ i. cond (r i) (rp i -ℤ z) (rp i)) (λ j. cond (c j) (cp j) (cp j +ℤ z))
    limits_adjusted bare_row bare_column = record {
      sunk = l.sunk + P z;
      before = l.before;
      low = λ j h. cond_ind (λ x. neg_ℤ (pos B) ≤ℤ x) (c j) (cp j) (cp j +ℤ z) (λ t. l.low j h) (λ u. omega (signed, least, l.low j h, plus_parts (cp j) z));
      high = λ j h. cond_ind (λ x. x ≤ℤ pos (B + (l.sunk + P z))) (c j) (cp j) (cp j +ℤ z)
          (λ t. omega (signed, l.high j h)) (λ u. omega (signed, l.high j h, plus_parts (cp j) z));
      bare = λ j h t. rw (T_false (c j) (bare_column j h t)) (omega (
        signed,
        whole z least,
        l.bare j h t,
        plus_parts (cp j) z,
        plus_parts (cp j) (pos B),
        plus_parts (cp j +ℤ z) (pos B),
      ));
      flat = λ i h t. rw (T_false (r i) (bare_row i h t)) (l.flat i h t);
      near = λ j h u. rw (T_false (c j) u) (omega (
        signed,
        whole z least,
        l.near j h u,
        plus_parts (cp j) z,
        plus_parts (cp j) (pos (B + 2 * C * count r n)),
        plus_parts (cp j +ℤ z) (pos (B + 2 * C * count r n)),
      ));
      still = λ j h t. rw (T_true (c j) t) (l.still j h t);
      rise = risen;
      past = l.past;
    }

  -- functions that agree below n
  pub limits_same : {star' row' : ℕ → ℕ} {r' c' : ℕ → Bool} {rp' cp' : ℕ → ℤ}
      → ((i : ℕ) → i < n → star' i ≡ star i) → ((j : ℕ) → j < n → row' j ≡ row j) → ((i : ℕ) → i < n → r' i ≡ r i) → ((j : ℕ) → j < n → c' j ≡ c j)
      → ((i : ℕ) → i < n → rp' i ≡ rp i) → ((j : ℕ) → j < n → cp' j ≡ cp j) → Limits n C A B star' row' r' c' rp' cp'
  limits_same {star'} {row'} {r'} {c'} {rp'} {cp'} es ew er ec ep eq = record {
    sunk = l.sunk;
    before = l.before;
    low = λ j h. rw (eq j h) (l.low j h);
    high = λ j h. rw (eq j h) (l.high j h);
    bare = λ j h t. rw (eq j h) (l.bare j h (rw (ew j h) at t));
    flat = λ i h t. rw (ep i h) (l.flat i h (rw (es i h) at t));
    near = λ j h u. rw (eq j h, count_ext r' r n er) (l.near j h (rw (ec j h) at u));
    still = λ j h t. rw (eq j h) (l.still j h (rw (ec j h) at t));
    rise = rw (count_ext r' r n er) l.rise;
    past = rw (count_ext (λ i. ltb (star' i) n) (λ i. ltb (star i) n) n (λ i h. ap (λ x. ltb x n) (es i h))) l.past;
  }

  -- ---- the bounds, while a row is uncovered

  module _ (left : count r n < n) where
    pub limits_sunk : l.sunk + C ≤ A + 3 * B + 4 * C * n
    limits_sunk = omega (arith, l.rise, l.past, mul-le-mul_left C left, mul-le-mul_left C (count_le (λ i. ltb (star i) n) n))

    pub limits_column : (j : ℕ) → j < n → Within (limit n C A B) (cp j)
    limits_column j h = record {
      above = omega (signed, l.low j h, neg_parts (pos B), neg_parts (pos (limit n C A B)));
      below = omega (signed, l.high j h, limits_sunk);
    }

    module _ (i : ℕ) (hi : i < n) (zero : star i < n → Within C (rp i +ℤ cp (star i))) where
      -- of a row with a star, and of one without
      row_ends : (neg_ℤ (pos (A + 4 * B + 4 * C * n)) ≤ℤ rp i) × (rp i ≤ℤ pos (A + B + C))
      row_ends =
          dite (dec_lt (star i) n)
          (λ s. (
            omega (
              signed,
              limits_sunk,
              (zero s).above,
              l.high (star i) s,
              neg_parts (pos C),
              neg_parts (pos (A + 4 * B + 4 * C * n)),
              plus_parts (rp i) (cp (star i)),
            ),
            omega (signed, (zero s).below, l.low (star i) s, neg_parts (pos B), plus_parts (rp i) (cp (star i))),
          ))
          (λ s. let f = l.flat i hi (omega arith) in (
            omega (signed, f.above, neg_parts (pos A), neg_parts (pos (A + 4 * B + 4 * C * n))),
            omega (signed, f.below),
          ))

      pub limits_row : Within (limit n C A B) (rp i)
      limits_row = record {
        above = omega (signed, row_ends.0, neg_parts (pos (A + 4 * B + 4 * C * n)), neg_parts (pos (limit n C A B)));
        below = omega (signed, row_ends.1);
      }

      -- k is the cost of cell (i, j) and w its working value
      pub limits_work : {k w : ℤ} (j : ℕ) → j < n → Within C k → k ≡ rp i +ℤ cp j +ℤ w → pos 0 ≤ℤ w → Within (limit n C A B) w
      limits_work {k} {w} j hj b e h = record {
        above = omega (signed, h, neg_parts (pos (limit n C A B)));
        below = omega (
          signed,
          b.below,
          row_ends.0,
          l.low j hj,
          neg_parts (pos B),
          neg_parts (pos (A + 4 * B + 4 * C * n)),
          plus_parts (rp i +ℤ cp j) w,
          plus_parts (rp i) (cp j),
        );
      }
