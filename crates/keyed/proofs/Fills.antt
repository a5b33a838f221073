-- The table of keys, filled row by row, and what it says of a row that it is cheapest in a column: its price, and that no zero stands before.
use mathlib.Core.Path.{◌≡◌, refl, sym, ap, ◌∙◌}
use mathlib.Core.Logic.{◌≢◌, inl, inr, dite}
use mathlib.Core.Bool.{Bool, true, false, ◌&&◌}
use mathlib.Core.List.{List}
use Prim.Native.Nat.{ℕ, ◌+◌, ◌*◌, ◌≤◌, ◌<◌}
use native.Mathlib.Decide.{ℕ_discrete}
use native.Mathlib.Omega.{arith}
use borrow.Author.Count.{below_none, below_more}
use lib.Dec.{T}
use lib.IntN.{ℤ, pos, ◌+ℤ◌, ◌-ℤ◌, ◌*ℤ◌}
use lib.ListN.{length, get_or, set, length-set}
use lib.Seq.{ext_get_or, get_or-set_same, get_or-set_other}
use lib.Signed.{◌≤ℤ◌, lt_z}
use Rattle.lines.specs.Bounds.{Within}
use Rattle.lines.specs.First.{any, least}
use Rattle.lines.specs.Square.{cell, square, table}
use Rattle.lines.proofs.Firsts.{any_is}
use Rattle.lines.proofs.Leasts.{least_is}
use Rattle.lines.proofs.Puts.{put2, put2_at, put2_off}
use Rattle.lines.proofs.Signed.{signed, plus_parts, minus_parts}
use Rattle.lines.proofs.Squares.{place_in, place_back, cell_set, length_square, square_at, table_ext}
use Rattle.lines.proofs.Tests.{T_true, T_false, T_or, by_cases, cases}
use Rattle.steps.specs.Steps.{is_zero, row_price}
use Rattle.steps.proofs.Turns.{zero_is}
use Rattle.keyed.specs.Keys.{far, pack, entry}
use Rattle.keyed.specs.Filled.{Lowest, CheapestIn, FilledRow}
use Rattle.keyed.proofs.Packs.{times_parts}

-- ---- the lowest entry so far

module _ (entries : ℕ → ℤ) where
  pub lowest_none : (c : ℕ) → Lowest entries c far 0
  lowest_none c = record { low = below_none _; hit = inl refl }

  module _ {c : ℕ} {least : ℤ} (k : ℕ) (here : ℤ) (e : here ≡ entries k) (l : Lowest entries c least k) where
    pub lowest_less : lt_z here least ≡ true → Lowest entries k here (k + 1)
    lowest_less t = record { low = below_more _ k (λ j h. let a = l.low j h in omega signed) (omega signed); hit = inr (omega arith, e) }

    pub lowest_same : lt_z here least ≡ false → Lowest entries c least (k + 1)
    lowest_same t = record {
      low = below_more _ k l.low (omega signed);
      hit = cases l.hit (λ f. inl f) (λ h. inr (omega (arith, h.0), h.1));
    }

-- ---- the table

module _ (n : ℕ) (ok : ℕ → ℕ → Bool) (cost : ℕ → ℕ → ℤ) where
  -- after k columns of row i
  pub record FillingRow (i : ℕ) (keys₀ keys : List ℤ) (k : ℕ) : Type 0 where
    pub long : length keys ≡ n * n
    pub done : (j : ℕ) → j < k → cell (pos 0) n keys j i ≡ entry 64 ok cost j i
    pub others : (j a : ℕ) → a < n → a ≢ i → cell (pos 0) n keys j a ≡ cell (pos 0) n keys₀ j a
    pub small : (j : ℕ) → j < k → Within 2147483648 (cost i j)

  pub filling_none : (i : ℕ) (keys : List ℤ) → length keys ≡ n * n → FillingRow i keys keys 0
  filling_none i keys size = record { long = size; done = below_none _; others = λ j a h ne. refl; small = below_none _ }

  pub filling_more : {i : ℕ} {keys₀ keys : List ℤ} (k : ℕ) (here : ℤ) → i < n → k < n → here ≡ entry 64 ok cost k i → Within 2147483648 (cost i k)
      → FillingRow i keys₀ keys k → FillingRow i keys₀ (set keys (k * n + i) here) (k + 1)
  filling_more {i} {keys₀} {keys} k here hi hk e w f = record {
    long = length-set keys (k * n + i) here ∙ f.long;
    done = below_more _ k
        (λ j l. stored j i hi ∙ put2_off (cell (pos 0) n keys) k i here j i (λ q r. omega arith) ∙ f.done j l)
        (stored k i hi ∙ put2_at (cell (pos 0) n keys) k i here k i refl refl ∙ e);
    others = λ j a h ne. stored j a h ∙ put2_off (cell (pos 0) n keys) k i here j a (λ q. ne) ∙ f.others j a h ne;
    small = below_more _ k f.small w;
  }
    where
      stored : (j a : ℕ) → a < n → cell (pos 0) n (set keys (k * n + i) here) j a ≡ put2 (cell (pos 0) n keys) k i here j a
      stored j a h = cell_set (pos 0) n keys k i here j a f.long hk hi h

  pub filling_all : {i k : ℕ} {keys₀ keys : List ℤ} {c : ℕ} {least : ℤ} → k ≡ n → FillingRow i keys₀ keys k → Lowest (λ j. entry 64 ok cost j i) c least k
      → FilledRow n ok cost i keys₀ keys × CheapestIn n ok cost i c
  filling_all {c = c} {least} e f l = (
    record { filled = λ j h. f.done j (rw e h); others = λ j a h g ne. f.others j a g ne },
    record { least = least; lowest = rw e at l; small = λ j h. f.small j (rw e h) },
  )

  -- after k rows
  pub record Filling (keys : List ℤ) (cheapest : List ℕ) (k : ℕ) : Type 0 where
    pub done : (j i : ℕ) → j < n → i < k → cell (pos 0) n keys j i ≡ entry 64 ok cost j i
    pub cheap : (i : ℕ) → i < k → CheapestIn n ok cost i (get_or cheapest i 0)

  pub rows_none : (keys : List ℤ) (cheapest : List ℕ) → Filling keys cheapest 0
  rows_none keys cheapest = record { done = λ j i hj l. absurd (omega arith); cheap = below_none _ }

  pub rows_more : {keys : List ℤ} {cheapest : List ℕ} (keys' : List ℤ) (k c : ℕ) → k < n → k < length cheapest → FilledRow n ok cost k keys keys' × CheapestIn n ok cost k c
      → Filling keys cheapest k → Filling keys' (set cheapest k c) (k + 1)
  rows_more {cheapest = cheapest} keys' k c h long x f = record {
    done = λ j i hj l. dite (ℕ_discrete i k) (λ e. rw e (x.0.filled j hj)) (λ ne. x.0.others j i hj (omega arith) ne ∙ f.done j i hj (omega arith));
    cheap = below_more _ k
        (λ i l. rw (get_or-set_other cheapest k i c 0 (λ q. omega arith)) (f.cheap i l))
        (rw (get_or-set_same cheapest k c 0 long) x.1);
  }

  pub filled_all : {keys : List ℤ} {cheapest : List ℕ} → length keys ≡ n * n → Filling keys cheapest n → keys ≡ square (entry 64 ok cost) n
  filled_all {keys} size f =
      ext_get_or (pos 0) keys _ (size ∙ sym (length_square (entry 64 ok cost) n)) (λ q l.
      let b : q < n * n = omega (arith, size) in
      let p = place_in n q b in
      let e = place_back n q in
      ap (λ x. get_or keys x (pos 0)) (sym e) ∙ f.done _ _ p.0 p.1 ∙ sym (square_at (pos 0) (entry 64 ok cost) n _ _ p.0 p.1) ∙ ap (λ x. get_or (square (entry 64 ok cost) n) x (pos 0)) e)

  -- ---- a row that is cheapest in column c

  module _ {i c : ℕ} (most : n ≤ 64) (some : T (any (ok i) n)) (hi : i < n) (x : CheapestIn n ok cost i c) where
    key_of : (j : ℕ) → T (ok i j) → entry 64 ok cost j i ≡ cost i j *ℤ pos 4096 +ℤ pos (j * 64 + i)
    unfolding entry pack
    key_of j t = rw (T_true (ok i j) t)

    -- the least entry is not far, since some cell is allowed
    not_far : x.least ≡ far → ⊥
    not_far e =
        let a = any_is (ok i) n some in
        let j = a.0 in
        let w = x.small j a.1 in
        let l = x.lowest.low j a.1 in
        let k = key_of j a.2 in
        omega (signed, e, l, k, w.below, times_parts (cost i j) 4096, plus_parts (cost i j *ℤ pos 4096) (pos (j * 64 + i)), a.1, most, hi)

    at : (c < n) × (x.least ≡ entry 64 ok cost c i)
    at = cases x.lowest.hit (λ e. absurd (not_far e)) (λ h. h)

    pub cheapest_below : c < n
    cheapest_below = at.0

    allowed : T (ok i c)
    unfolding entry
    allowed = cases (T_or (ok i c)) (λ t. t) (λ t. absurd (not_far (at.1 ∙ rw (T_false (ok i c) t))))

    lowest : (j : ℕ) → j < n → T (ok i j) → (cost i c *ℤ pos 4096 +ℤ pos (c * 64 + i)) ≤ℤ (cost i j *ℤ pos 4096 +ℤ pos (j * 64 + i))
    lowest j h t = let l = x.lowest.low j h in let a = at.1 in let k = key_of c allowed in let m = key_of j t in omega signed

    cheaper : (j : ℕ) → j < n → T (ok i j) → cost i c ≤ℤ cost i j
    cheaper j h t =
        let l = lowest j h t in
        omega (signed, l, times_parts (cost i c) 4096, times_parts (cost i j) 4096, plus_parts (cost i c *ℤ pos 4096) (pos (c * 64 + i)), plus_parts (cost i j *ℤ pos 4096) (pos (j * 64 + i)), at.0, h, most)

    pub cheapest_price : cost i c ≡ row_price n ok cost i
    unfolding row_price
    cheapest_price =
        let l = least_is (ok i) (cost i) n in
        let b = l.low c at.0 allowed in
        let d = cheaper (least (ok i) (cost i) n) b.0 (l.hit b.0) in
        let e = b.1 in
        omega signed

    -- an earlier zero would have a lower key
    pub none_before : (j : ℕ) → j < c → (ok i j && is_zero (cost i j -ℤ row_price n ok cost i)) ≡ false
    none_before j l = by_cases (ok i j)
        (λ t. rw t (by_cases (is_zero (cost i j -ℤ row_price n ok cost i))
        (λ z. absurd (earlier (rw t tt) (zero_is _ (rw z tt))))
        (λ z. z)))
        (λ t. rw t)
      where
        earlier : T (ok i j) → cost i j -ℤ row_price n ok cost i ≡ pos 0 → ⊥
        earlier t z =
            let k = lowest j (omega (arith, l, at.0)) t in
            let p = cheapest_price in
            omega (
              signed,
              k,
              p,
              z,
              l,
              minus_parts (cost i j) (row_price n ok cost i),
              times_parts (cost i c) 4096,
              times_parts (cost i j) 4096,
              plus_parts (cost i c *ℤ pos 4096) (pos (c * 64 + i)),
              plus_parts (cost i j *ℤ pos 4096) (pos (j * 64 + i)),
            )

  pub prices_are : (cheapest : List ℕ) → n ≤ 64 → ((i : ℕ) → i < n → T (any (ok i) n)) → ((i : ℕ) → i < n → CheapestIn n ok cost i (get_or cheapest i 0))
      → table (λ i. cost i (get_or cheapest i 0)) n ≡ table (row_price n ok cost) n
  prices_are cheapest most some x = table_ext _ _ n (λ i h. cheapest_price most (some i h) h (x i h))

  pub prices_small : (cheapest : List ℕ) → n ≤ 64 → ((i : ℕ) → i < n → T (any (ok i) n)) → ((i : ℕ) → i < n → CheapestIn n ok cost i (get_or cheapest i 0))
      → (i : ℕ) → i < n → Within 2147483648 (row_price n ok cost i)
  prices_small cheapest most some x i h = rw (cheapest_price most (some i h) h (x i h)) at ((x i h).small (get_or cheapest i 0) (cheapest_below most (some i h) h (x i h)))
