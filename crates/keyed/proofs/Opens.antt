-- Law B, open. A row is covered, or a column opens: what the keys then tell, and the least of them.
use mathlib.Core.Path.{◌≡◌, refl, ◌∙◌}
use mathlib.Core.Logic.{◌⊎◌, inl, inr, dite}
use mathlib.Core.Bool.{Bool, true, false, not, cond}
use mathlib.Core.List.{List}
use Prim.Native.Nat.{ℕ, zero, suc, ◌+◌, ◌*◌, ◌≤◌, ◌<◌}
use native.Mathlib.Nat.{mul-le-mul_right, add-mul}
use native.Mathlib.Decide.{ℕ_discrete}
use native.Mathlib.Omega.{arith}
use lib.Dec.{T}
use lib.IntN.{ℤ, pos, ◌+ℤ◌, ◌-ℤ◌, ◌*ℤ◌}
use lib.Signed.{lt_z, ◌≤ℤ◌, ≤ℤ_refl}
use Rattle.lines.specs.Sets.{has, with, without, all}
use Rattle.lines.proofs.Tests.{T_true, T_false, T_or, by_cases, cases, clash}
use Rattle.lines.proofs.Sets.{with_same, with_other, without_same, without_other, has_all}
use Rattle.lines.proofs.Signed.{P, N, signed, plus_parts, minus_parts}
use Rattle.std.specs.Int.{int_min}
use Rattle.keyed.specs.Keys.{pack, entry, less_prices, least_key, far}
use Rattle.keyed.specs.Best.{key_at, KeyIn, Keys, Best}
use Rattle.keyed.proofs.Packs.{times_parts, prices_off}

-- ---- the lesser of two

module _ (x y : ℤ) where
  pub lesser_left : int_min x y ≤ℤ x
  lesser_left = by_cases (lt_z y x) (λ e. rw e (omega signed)) (λ e. rw e (≤ℤ_refl x))

  pub lesser_right : int_min x y ≤ℤ y
  lesser_right = by_cases (lt_z y x) (λ e. rw e (≤ℤ_refl y)) (λ e. rw e (omega signed))

  pub lesser_one : (int_min x y ≡ x) ⊎ (int_min x y ≡ y)
  lesser_one = by_cases (lt_z y x) (λ e. inr (rw e)) (λ e. inl (rw e))

-- ---- the least key

-- it is far, or a row's
pub record RowKey (rows : ℕ) (key : ℕ → ℤ) (n : ℕ) (z : ℤ) : Type 0 where
  pub row : ℕ
  pub row_below : row < n
  pub is_open : T (not (has rows row))
  pub value : z ≡ key row

module _ (rows : ℕ) (key : ℕ → ℤ) where
  pub least_low : (n i : ℕ) → i < n → T (not (has rows i)) → least_key rows key n ≤ℤ key i
  unfolding least_key
  least_low zero i h t = absurd (omega arith)
  least_low (suc n) i h t = go (has rows n) refl (λ l. least_low n i l t)
    where
      go : (x : Bool) → has rows n ≡ x → (i < n → least_key rows key n ≤ℤ key i) → cond x (least_key rows key n) (int_min (least_key rows key n) (key n)) ≤ℤ key i
      go true e before = before (dite (ℕ_discrete i n) (λ q. absurd (rw (q, e) at t)) (λ ne. omega arith))
      go false e before =
          dite (ℕ_discrete i n)
          (λ q. rw q (lesser_right (least_key rows key n) (key n)))
          (λ ne. let l = lesser_left (least_key rows key n) (key n) in let k = before (omega arith) in omega signed)

  pub least_hit : (n : ℕ) → (least_key rows key n ≡ far) ⊎ RowKey rows key n (least_key rows key n)
  unfolding least_key
  least_hit zero = inl refl
  least_hit (suc n) = go (has rows n) refl (least_hit n)
    where
      z : ℤ
      z = least_key rows key n

      on : {y : ℤ} → RowKey rows key n y → RowKey rows key (suc n) y
      on k = record { row = k.row; row_below = omega (arith, k.row_below); is_open = k.is_open; value = k.value }

      go : (x : Bool) → has rows n ≡ x → (z ≡ far) ⊎ RowKey rows key n z → (cond x z (int_min z (key n)) ≡ far) ⊎ RowKey rows key (suc n) (cond x z (int_min z (key n)))
      go true e h = cases h (λ q. inl q) (λ k. inr (on k))
      go false e h =
          cases (lesser_one z (key n))
          (λ q. rw q (cases h (λ f. inl f) (λ k. inr (on k))))
          (λ q. inr (record { row = n; row_below = omega arith; is_open = rw e tt; value = q }))

-- ---- the rows' keys and the least of all

module _ (B n : ℕ) (ok : ℕ → ℕ → Bool) (limit : ℤ) (beyond : limit ≤ℤ far) (working : List ℤ) (risen : ℤ) where
  -- what is not above the key of any uncovered row, and is far or one of them
  pub best_from : {rows columns : ℕ} {key : ℕ → ℤ} {best : ℤ} → ((i : ℕ) → i < n → T (not (has rows i)) → best ≤ℤ key i) → (best ≡ far) ⊎ RowKey rows key n best
      → Keys B n ok limit working rows columns risen key → Best B n ok limit working rows columns risen best
  best_from {best = best} low hit k = record {
    low = λ i j hi hj o. let l = low i hi o.row in let q = k.low i j hi hj o in omega signed;
    hit = λ near. cases hit
        (λ e. absurd (omega (signed, near, e, beyond)))
        (λ r. record {
          row = r.row;
          row_below = r.row_below;
          in_row = rw r.value (k.hit r.row r.row_below r.is_open (rw r.value at near));
        });
  }

  pub best_of : {rows columns : ℕ} {key : ℕ → ℤ} → Keys B n ok limit working rows columns risen key
      → Best B n ok limit working rows columns risen (least_key rows key n)
  best_of {rows} {columns} {key} k = best_from (least_low rows key n) (least_hit rows key n) k

  -- no column is open yet
  pub keys_none : {rows : ℕ} {key : ℕ → ℤ} → ((i : ℕ) → i < n → key i ≡ far) → Keys B n ok limit working rows (all n) risen key
  keys_none {rows} {key} e = record {
    low = λ i j hi hj o. clash (has (all n) j) (has_all n j hj) (T_false (has (all n) j) o.column);
    hit = λ i hi t near. absurd (omega (signed, near, e i hi, beyond));
  }

  -- the same by sets that have the same lines below n
  pub keys_ext : {rows columns columns' : ℕ} {key : ℕ → ℤ} → ((j : ℕ) → j < n → has columns' j ≡ has columns j)
      → Keys B n ok limit working rows columns risen key → Keys B n ok limit working rows columns' risen key
  keys_ext {rows} {columns} {columns'} {key} same k = record {
    low = λ i j hi hj o. k.low i j hi hj (record { row = o.row; column = rw (same j hj) at o.column; allowed = o.allowed });
    hit = λ i hi t near. let h = k.hit i hi t near in
        record {
          column = h.column;
          column_below = h.column_below;
          is_open = record { row = h.is_open.row; column = rw (same h.column h.column_below) h.is_open.column; allowed = h.is_open.allowed };
          value = h.value;
        };
  }

  pub best_ext : {rows columns columns' : ℕ} {best : ℤ} → ((j : ℕ) → j < n → has columns' j ≡ has columns j)
      → Best B n ok limit working rows columns risen best → Best B n ok limit working rows columns' risen best
  best_ext same b = record {
    low = λ i j hi hj o. b.low i j hi hj (record { row = o.row; column = rw (same j hj) at o.column; allowed = o.allowed });
    hit = λ near. let k = b.hit near in
        let h = k.in_row in
        record {
          row = k.row;
          row_below = k.row_below;
          in_row = record {
            column = h.column;
            column_below = h.column_below;
            is_open = record { row = h.is_open.row; column = rw (same h.column h.column_below) h.is_open.column; allowed = h.is_open.allowed };
            value = h.value;
          };
        };
  }

  -- a row is covered: nothing for the others
  pub keys_covered : {rows columns : ℕ} {key : ℕ → ℤ} (r : ℕ) → Keys B n ok limit working rows columns risen key
      → Keys B n ok limit working (with rows r) columns risen key
  keys_covered {rows} {columns} {key} r k = record {
    low = λ i j hi hj o. k.low i j hi hj (record { row = before i o.row; column = o.column; allowed = o.allowed });
    hit = λ i hi t near. let h = k.hit i hi (before i t) near in
        record {
          column = h.column;
          column_below = h.column_below;
          is_open = record { row = t; column = h.is_open.column; allowed = h.is_open.allowed };
          value = h.value;
        };
  }
    where
      before : (i : ℕ) → T (not (has (with rows r) i)) → T (not (has rows i))
      before i t =
          dite (ℕ_discrete i r)
          (λ e. clash (has (with rows r) i) (rw e (with_same rows r)) (T_false (has (with rows r) i) t))
          (λ ne. rw (with_other rows r i ne) at t)

  -- column s opens: each uncovered row has the lesser of its key and its term there
  module _ {rows columns : ℕ} {key key' term : ℕ → ℤ} (s : ℕ) (hs : s < n)
      (told : (i : ℕ) → i < n → T (not (has rows i)) → T (ok i s) → term i ≡ key_at B n ok limit working risen i s)
      (shut : (i : ℕ) → i < n → T (not (has rows i)) → T (not (ok i s)) → limit ≤ℤ term i)
      (new : (i : ℕ) → i < n → T (not (has rows i)) → key' i ≡ int_min (key i) (term i)) where
    pub keys_opened : Keys B n ok limit working rows columns risen key → Keys B n ok limit working rows (without columns s) risen key'
    keys_opened k = record {
      low = λ i j hi hj o. rw (new i hi o.row)
          (dite (ℕ_discrete j s)
          (λ e. let l = lesser_right (key i) (term i) in let q = told i hi o.row (rw e at o.allowed) in rw e (omega signed))
          (λ ne. let l = lesser_left (key i) (term i) in
          let q = k.low i j hi hj (record { row = o.row; column = rw (without_other columns s j ne) at o.column; allowed = o.allowed }) in
          omega signed));
      hit = λ i hi t near. hits i hi t near (rw (new i hi t) at near);
    }
      where
        -- a column that was open is so still
        still : (j : ℕ) → T (not (has columns j)) → T (not (has (without columns s) j))
        still j u = dite (ℕ_discrete j s) (λ e. rw (e, without_same columns s) tt) (λ ne. rw (without_other columns s j ne) u)

        hits : (i : ℕ) → i < n → T (not (has rows i)) → lt_z (key' i) limit ≡ true → lt_z (int_min (key i) (term i)) limit ≡ true
            → KeyIn B n ok limit working rows (without columns s) risen (key' i) i
        hits i hi t near' near = cases (lesser_one (key i) (term i))
            (λ e. let h = k.hit i hi t (rw e at near) in
            record {
              column = h.column;
              column_below = h.column_below;
              is_open = record { row = t; column = still h.column h.is_open.column; allowed = h.is_open.allowed };
              value = new i hi t ∙ e ∙ h.value;
            })
            (λ e. cases (T_or (ok i s))
            (λ u. record {
              column = s;
              column_below = hs;
              is_open = record { row = t; column = rw (without_same columns s) tt; allowed = u };
              value = new i hi t ∙ e ∙ told i hi t u;
            })
            (λ u. let l = shut i hi t u in let q = rw e at near in absurd (omega signed)))

-- ---- the table's terms

module _ (B : ℕ) (ok : ℕ → ℕ → Bool) (cost : ℕ → ℕ → ℤ) (i s : ℕ) (p q w d : ℤ) where
  -- an allowed cell's term is its key
  pub term_told : T (ok i s) → cost i s ≡ p +ℤ q +ℤ w → less_prices B (entry B ok cost s i) p (q -ℤ d) ≡ pack B (w +ℤ d) s i
  unfolding entry
  term_told t e = rw (T_true (ok i s) t) (prices_off B (cost i s) p q w d s i e)

  -- a forbidden one's stays far
  pub term_shut : (limit : ℤ) (M : ℕ) → T (not (ok i s)) → (p +ℤ (q -ℤ d)) ≤ℤ pos M → (limit +ℤ pos (M * (B * B))) ≤ℤ far
      → limit ≤ℤ less_prices B (entry B ok cost s i) p (q -ℤ d)
  unfolding entry less_prices
  term_shut limit M t le room =
      let S = p +ℤ (q -ℤ d) in
      let K = B * B in
      let h : P S ≤ M + N S = omega signed in
      let m : P S * K ≤ (M + N S) * K = mul-le-mul_right K h in
      let m' = simp add-mul at m in
      rw (T_false (ok i s) t) (omega (signed, m', times_parts S K, plus_parts limit (pos (M * K)), minus_parts far (S *ℤ pos K)))
