-- The rows' cheapest open columns: what the keys are that they give, and why they stay known.
use mathlib.Core.Path.{◌≡◌, refl, sym, ap, ◌∙◌}
use mathlib.Core.Logic.{◌⊎◌, inl, inr}
use mathlib.Core.Bool.{true, false}
use mathlib.Core.List.{List}
use Prim.Native.Nat.{ℕ, ◌+◌, ◌*◌, ◌≤◌, ◌<◌}
use native.Mathlib.Omega.{arith}
use borrow.Author.Count.{below_none, below_more}
use lib.IntN.{ℤ, pos, ◌+ℤ◌, ◌*ℤ◌}
use lib.ListN.{length, get_or, set, length-set}
use lib.Seq.{get_or-set_same, get_or-set_other}
use lib.Signed.{◌≤ℤ◌, lt_z}
use Rattle.lines.specs.Sets.{has}
use Rattle.lines.proofs.Tests.{T_false, T_or, cases, clash}
use Rattle.lines.proofs.Sets.{has_empty}
use Rattle.lines.proofs.Signed.{signed, plus_parts, minus_parts}
use Rattle.std.specs.Int.{int_min}
use Rattle.keyed.specs.Keys.{far, limit, less_prices}
use Rattle.keyed.specs.Opening.{own_term, Cheapest, Known, Opens}
use Rattle.keyed.specs.Best.{Keys}
use Rattle.keyed.proofs.Packs.{plus_times}
use Rattle.keyed.proofs.Opens.{RowKey, lesser_left, lesser_right, lesser_one, best_from}
use Rattle.keyed.proofs.OpenColumns.{beyond}

-- the columns below k are shut
abbrev pub Shut : ℕ → ℕ → Type 0
Shut columns k = (j : ℕ) → j < k → has columns j ≡ true

module _ (n columns : ℕ) (keys row_prices column_prices : List ℤ) where
  abbrev term : ℕ → ℕ → ℤ
  term = own_term n keys row_prices column_prices

  -- ---- a row's open columns, lowest first

  -- after k columns, of which one is open: c is cheapest
  pub record Sought (i c : ℕ) (least : ℤ) (k : ℕ) : Type 0 where
    pub below : c < n
    pub is_open : has columns c ≡ false
    pub value : least ≡ term c i
    pub none : (j : ℕ) → j < k → has columns j ≡ false → least ≤ℤ term j i

  pub sought_first : {i t : ℕ} {least : ℤ} → t < n → has columns t ≡ false → least ≡ term t i → Shut columns t → Sought i t least (t + 1)
  sought_first {i} {t} {least} h e v shut = record {
    below = h;
    is_open = e;
    value = v;
    none = below_more _ t (λ j l f. clash (has columns j) (shut j l) f) (λ f. omega signed);
  }

  pub sought_pass : {i c : ℕ} {least : ℤ} (k : ℕ) → has columns k ≡ true → Sought i c least k → Sought i c least (k + 1)
  sought_pass k e s = record { below = s.below; is_open = s.is_open; value = s.value; none = below_more _ k s.none (λ f. clash (has columns k) e f) }

  module _ {i c : ℕ} {least : ℤ} (k : ℕ) (here : ℤ) (v : here ≡ term k i) (s : Sought i c least k) where
    pub sought_less : k < n → has columns k ≡ false → lt_z here least ≡ true → Sought i k here (k + 1)
    sought_less h e l = record {
      below = h;
      is_open = e;
      value = v;
      none = below_more _ k (λ j m f. let a = s.none j m f in omega signed) (λ f. omega signed);
    }

    pub sought_same : lt_z here least ≡ false → Sought i c least (k + 1)
    sought_same l = record { below = s.below; is_open = s.is_open; value = s.value; none = below_more _ k s.none (λ f. omega signed) }

  pub sought_all : {i c : ℕ} {least : ℤ} → Sought i c least n → Cheapest n columns keys row_prices column_prices i c
  sought_all s = record { below = s.below; is_open = s.is_open; none_cheaper = λ j h f. let a = s.none j h f in let v = s.value in omega signed }

  -- ---- row after row gets the key that it has in its cheapest column

  -- after k rows
  pub record Chosen (cheapest₀ cheapest : List ℕ) (key₀ key : List ℤ) (best : ℤ) (k : ℕ) : Type 0 where
    pub cheapest_same : length cheapest ≡ length cheapest₀
    pub key_same : length key ≡ length key₀
    pub done : (i : ℕ) → i < k → Cheapest n columns keys row_prices column_prices i (get_or cheapest i 0)
    pub left : (i : ℕ) → k ≤ i → get_or cheapest i 0 ≡ get_or cheapest₀ i 0
    pub keyed : (i : ℕ) → i < k → get_or key i (pos 0) ≡ term (get_or cheapest i 0) i
    pub low : (i : ℕ) → i < k → best ≤ℤ get_or key i (pos 0)
    pub hit : (best ≡ far) ⊎ RowKey 0 (λ i. get_or key i (pos 0)) k best

  pub chosen_none : (cheapest : List ℕ) (key : List ℤ) → Chosen cheapest cheapest key key far 0
  chosen_none cheapest key = record {
    cheapest_same = refl;
    key_same = refl;
    done = below_none _;
    left = λ i h. refl;
    keyed = below_none _;
    low = below_none _;
    hit = inl refl;
  }

  module _ {cheapest₀ cheapest : List ℕ} {key₀ key : List ℤ} {best : ℤ} (k c : ℕ) (here best' : ℤ) (x : Chosen cheapest₀ cheapest key₀ key best k) where
    pub chosen_more : k < length cheapest → k < length key → Cheapest n columns keys row_prices column_prices k c → here ≡ term c k → best' ≡ int_min best here
        → Chosen cheapest₀ (set cheapest k c) key₀ (set key k here) best' (k + 1)
    chosen_more hc hk found eh eb = record {
      cheapest_same = length-set cheapest k c ∙ x.cheapest_same;
      key_same = length-set key k here ∙ x.key_same;
      done = below_more _ k (λ i l. rw (old_column i l) (x.done i l)) (rw new_column found);
      left = λ i l. get_or-set_other cheapest k i c 0 (λ q. omega arith) ∙ x.left i (omega arith);
      keyed = below_more _ k (λ i l. old_key i l ∙ x.keyed i l ∙ ap (λ y. term y i) (sym (old_column i l))) (new_key ∙ eh ∙ ap (λ y. term y k) (sym new_column));
      low = below_more _ k
          (λ i l. let a = x.low i l in let b = lesser_left best here in rw (old_key i l, eb) (omega signed))
          (rw (new_key, eb) (lesser_right best here));
      hit = cases (lesser_one best here)
          (λ e. cases x.hit
          (λ f. inl (eb ∙ e ∙ f))
          (λ r. inr (record {
            row = r.row;
            row_below = omega (arith, r.row_below);
            is_open = r.is_open;
            value = eb ∙ e ∙ r.value ∙ sym (old_key r.row r.row_below);
          })))
          (λ e. inr (record { row = k; row_below = omega arith; is_open = rw (has_empty k) tt; value = eb ∙ e ∙ sym new_key }));
    }
      where
        new_column : get_or (set cheapest k c) k 0 ≡ c
        new_column = get_or-set_same cheapest k c 0 hc

        old_column : (i : ℕ) → i < k → get_or (set cheapest k c) i 0 ≡ get_or cheapest i 0
        old_column i l = get_or-set_other cheapest k i c 0 (λ q. omega arith)

        new_key : get_or (set key k here) k (pos 0) ≡ here
        new_key = get_or-set_same key k here (pos 0) hk

        old_key : (i : ℕ) → i < k → get_or (set key k here) i (pos 0) ≡ get_or key i (pos 0)
        old_key i l = get_or-set_other key k i here (pos 0) (λ q. omega arith)

  module _ {cheapest₀ cheapest : List ℕ} {key₀ key : List ℤ} {best : ℤ} (x : Chosen cheapest₀ cheapest key₀ key best n) where
    pub chosen_known : Known n columns keys row_prices column_prices cheapest
    chosen_known i hi l e = (x.done i hi).none_cheaper

    -- a cell's key is above that of the cheapest column, and that one is the key of its cell, or far
    pub chosen_opens : Opens n 0 columns keys row_prices column_prices key best
    chosen_opens ok working told shut = (all, best_from 64 n ok limit beyond working (pos 0) (λ i hi t. x.low i hi) x.hit all)
      where
        all : Keys 64 n ok limit working 0 columns (pos 0) (λ i. get_or key i (pos 0))
        all = record {
          low = λ i j hi hj o.
              let a = (x.done i hi).none_cheaper j hj (T_false (has columns j) o.column) in
              let b = told i j hi hj o.allowed in
              let e = x.keyed i hi in
              omega signed;
          hit = λ i hi t near.
              let c = x.done i hi in
              let e = x.keyed i hi in
              cases (T_or (ok i (get_or cheapest i 0)))
              (λ u. record {
                column = get_or cheapest i 0;
                column_below = c.below;
                is_open = record { row = t; column = rw c.is_open tt; allowed = u };
                value = e ∙ told i (get_or cheapest i 0) hi c.below u;
              })
              (λ u. let s = shut i (get_or cheapest i 0) hi c.below u in absurd (omega signed));
        }

-- ---- why they stay known

-- the open columns become fewer
pub known_fewer : (n columns columns' : ℕ) (keys row_prices column_prices : List ℤ) (cheapest : List ℕ)
    → ((j : ℕ) → j < n → has columns' j ≡ false → has columns j ≡ false)
    → Known n columns keys row_prices column_prices cheapest → Known n columns' keys row_prices column_prices cheapest
known_fewer n columns columns' keys row_prices column_prices cheapest fewer known i hi l e j hj f = known i hi l (fewer _ l e) j hj (fewer j hj f)

-- of two terms the lesser stays so where the row's price is another, and both columns rise by z
terms_moved : (B : ℕ) (a b p p' q r z : ℤ) → less_prices B a p q ≤ℤ less_prices B b p r → less_prices B a p' (q +ℤ z) ≤ℤ less_prices B b p' (r +ℤ z)
unfolding less_prices
terms_moved B a b p p' q r z le =
    let K = B * B in
    let k = pos K in
    omega (
      signed,
      le,
      minus_parts a ((p +ℤ q) *ℤ k),
      minus_parts b ((p +ℤ r) *ℤ k),
      minus_parts a ((p' +ℤ (q +ℤ z)) *ℤ k),
      minus_parts b ((p' +ℤ (r +ℤ z)) *ℤ k),
      plus_times p q K,
      plus_times p r K,
      plus_times p' (q +ℤ z) K,
      plus_times p' (r +ℤ z) K,
      plus_times q z K,
      plus_times r z K,
      plus_parts (p *ℤ k) (q *ℤ k),
      plus_parts (p *ℤ k) (r *ℤ k),
      plus_parts (p' *ℤ k) ((q +ℤ z) *ℤ k),
      plus_parts (p' *ℤ k) ((r +ℤ z) *ℤ k),
      plus_parts (q *ℤ k) (z *ℤ k),
      plus_parts (r *ℤ k) (z *ℤ k),
    )

-- the open columns rise together
pub known_raised : (n columns : ℕ) (keys row_prices column_prices row_prices' column_prices' : List ℤ) (cheapest : List ℕ) (z : ℤ)
    → ((j : ℕ) → j < n → has columns j ≡ false → get_or column_prices' j (pos 0) ≡ get_or column_prices j (pos 0) +ℤ z)
    → Known n columns keys row_prices column_prices cheapest → Known n columns keys row_prices' column_prices' cheapest
known_raised n columns keys row_prices column_prices row_prices' column_prices' cheapest z up known i hi l e j hj f =
    rw (up _ l e, up j hj f) (terms_moved 64 _ _ _ _ _ _ z (known i hi l e j hj f))
