-- Law C, choose. What the least key tells steps 4 and 6: that no cell is open; or the first zero in step 4's order; or the least open value.
use mathlib.Core.Path.{◌≡◌, refl, sym, ap, ◌∙◌}
use mathlib.Core.Logic.{dite}
use mathlib.Core.Bool.{Bool, true, false, not, ◌&&◌}
use mathlib.Core.List.{List}
use Prim.Native.Nat.{ℕ, ◌+◌, ◌*◌, ◌≤◌, ◌<◌}
use native.Mathlib.Decide.{dec_lt}
use native.Mathlib.Omega.{arith}
use borrow.Author.Tests.{lt-ltb}
use lib.Dec.{T, T_not, ltb}
use lib.IntN.{ℤ, pos, ◌-ℤ◌}
use lib.Signed.{lt_z, ◌≤ℤ◌}
use lib.ListN.{get_or}
use Rattle.lines.specs.First.{first}
use Rattle.lines.specs.Square.{cell}
use Rattle.lines.specs.Sets.{has}
use Rattle.lines.proofs.Tests.{both}
use Rattle.lines.proofs.Firsts.{first_is}
use Rattle.lines.proofs.Signed.{P, signed, minus_parts, whole}
use Rattle.steps.specs.Steps.{zero_at, uncovered, zero_in_column, zero_column, lowest}
use Rattle.steps.specs.Going.{Open, OpenZero, NoZero, NoOpen}
use Rattle.steps.proofs.Turns.{is_zero_pos, zero_found, zero_none, lowest_found, lowest_none}
use Rattle.keyed.specs.Keys.{pack, value_of, column_of, row_of}
use Rattle.keyed.specs.Best.{key_at, KeyOf, Best}
use Rattle.keyed.proofs.Packs.{pack_value, pack_column, pack_row, value_out, column_out, row_out}

module _ (B n : ℕ) (ok : ℕ → ℕ → Bool) (limit : ℤ) (base : n ≤ B) (working : List ℤ) (rows columns d : ℕ)
    (above : (i j : ℕ) → i < n → j < n → T (ok i j) → pos 0 ≤ℤ cell (pos 0) n working i j)
    {best : ℤ} (b : Best B n ok limit working rows columns (pos d) best) where
  -- a cell's value as a natural number, and its key by that
  abbrev pub value : ℕ → ℕ → ℕ
  value i j = P (cell (pos 0) n working i j)

  pub key_is : (i j : ℕ) → i < n → j < n → T (ok i j) → key_at B n ok limit working (pos d) i j ≡ pack B (pos (value i j + d)) j i
  key_is i j hi hj t = rw (whole (cell (pos 0) n working i j) (above i j hi hj t))

  -- ---- no open cell

  pub none_open : ((i j : ℕ) → i < n → j < n → Open ok rows columns i j → lt_z (key_at B n ok limit working (pos d) i j) limit ≡ true) → lt_z best limit ≡ false
      → NoOpen n ok rows columns
  none_open near far i j hi hj o = let l = b.low i j hi hj o in let k = near i j hi hj o in omega signed

  -- ---- an open cell: the one that the key names

  module _ (near : lt_z best limit ≡ true) where
    abbrev pub named : KeyOf B n ok limit working rows columns (pos d) best
    named = b.hit near

    abbrev pub i : ℕ
    i = named.row

    abbrev pub j : ℕ
    j = named.in_row.column

    hi : i < n
    hi = named.row_below

    hj : j < n
    hj = named.in_row.column_below

    o : Open ok rows columns i j
    o = named.in_row.is_open

    best_is : best ≡ pack B (pos (value i j + d)) j i
    best_is = named.in_row.value ∙ key_is i j hi hj o.allowed

    pub row_named : row_of B best ≡ i
    row_named = ap (row_of B) best_is ∙ row_out B (value i j + d) j i (omega (arith, hj)) (omega (arith, hi))

    pub column_named : column_of B best ≡ j
    column_named = ap (column_of B) best_is ∙ column_out B (value i j + d) j i (omega (arith, hj)) (omega (arith, hi))

    pub value_named : value_of B best ≡ pos (value i j + d)
    value_named = ap (value_of B) best_is ∙ value_out B (value i j + d) j i (omega (arith, hj)) (omega (arith, hi))

    -- its key is not above any other open cell's
    module _ (a c : ℕ) (ha : a < n) (hc : c < n) (oc : Open ok rows columns a c) where
      below : pack B (pos (value i j + d)) j i ≤ℤ pack B (pos (value a c + d)) c a
      below = rw (best_is, key_is a c ha hc oc.allowed) at (b.low a c ha hc oc)

      least_value : value i j ≤ value a c
      least_value = omega (arith, pack_value B (value i j + d) (value a c + d) j c i a (omega (arith, hj)) (omega arith) (omega (arith, hi)) (omega arith) below)

      first_column : value i j ≡ value a c → j ≤ c
      first_column e = pack_column B (value i j + d) (value a c + d) j c i a (omega (arith, hj)) (omega arith) (omega (arith, hi)) (omega arith) below (omega arith)

      first_row : value i j ≡ value a c → j ≡ c → i ≤ a
      first_row e = pack_row B (value i j + d) (value a c + d) j c i a (omega (arith, hj)) (omega arith) (omega (arith, hi)) (omega arith) below (omega arith)

    -- ---- above what has risen: there is no zero

    pub no_zero : lt_z (pos d) (value_of B best) ≡ true → NoZero n ok working rows columns
    no_zero t a c ha hc oc z =
        let v = rw value_named at t in
        let l = least_value a c ha hc oc in
        let e = ap P z in
        omega signed

    -- ---- not above it: the first zero, column by column and downwards in each

    module _ (t : lt_z (pos d) (value_of B best) ≡ false) where
      no_value : value i j ≡ 0
      no_value = let v = rw value_named at t in omega signed

      pub zero_here : cell (pos 0) n working i j ≡ pos 0
      zero_here = whole (cell (pos 0) n working i j) (above i j hi hj o.allowed) ∙ ap pos no_value

      abbrev zero? : ℕ → ℕ → Bool
      zero? a c = uncovered rows columns a c && zero_at n ok working a c

      passes : (a c : ℕ) → Open ok rows columns a c → cell (pos 0) n working a c ≡ pos 0 → T (zero? a c)
      unfolding uncovered zero_at
      passes a c oc e =
          both (not (has rows a) && not (has columns c)) _ (both (not (has rows a)) _ oc.row oc.column)
          (both (ok a c) _ oc.allowed (rw e is_zero_pos))

      abbrev J : ℕ
      J = zero_column n ok working rows columns

      -- the search finds a zero, in a column that is not behind this one
      found : J < n
      found = dite (dec_lt (zero_column n ok working rows columns) n) (λ h. h) (λ h. absurd (zero_none n ok working rows columns (omega arith) i j hi hj o zero_here))

      z : OpenZero n ok working rows columns (zero_in_column n ok working rows columns J) J
      z = zero_found n ok working rows columns found

      same_value : value i j ≡ value (zero_in_column n ok working rows columns J) J
      same_value = no_value ∙ sym (ap P z.zero)

      -- and this column has one
      here : zero_in_column n ok working rows columns j < n
      unfolding zero_in_column
      here =
          dite (dec_lt (first (λ a. zero? a j) n) n) (λ h. h)
          (λ h. absurd (T_not (zero? i j) ((first_is (λ a. zero? a j) n).before i (omega (arith, hi))) (passes i j o zero_here)))

      column_first : J ≡ j
      unfolding zero_column
      column_first =
          let f = first_is (λ c. ltb (zero_in_column n ok working rows columns c) n) n in
          let l : j ≤ J = first_column (zero_in_column n ok working rows columns J) J z.row_below z.column_below z.is_open same_value in
          dite (dec_lt j J)
          (λ h. absurd (T_not (ltb (zero_in_column n ok working rows columns j) n) (f.before j h) (rw (lt-ltb (zero_in_column n ok working rows columns j) n here) tt)))
          (λ h. omega arith)

      pub column_found : zero_column n ok working rows columns ≡ column_of B best
      column_found = column_first ∙ sym column_named

      row_first : zero_in_column n ok working rows columns j ≡ i
      unfolding zero_in_column
      row_first =
          let f = first_is (λ a. zero? a j) n in
          let z' = rw column_first at z in
          let l : i ≤ zero_in_column n ok working rows columns j = first_row (zero_in_column n ok working rows columns j) j z'.row_below hj z'.is_open (rw column_first at same_value) refl in
          dite (dec_lt i (first (λ a. zero? a j) n))
          (λ h. absurd (T_not (zero? i j) (f.before i h) (passes i j o zero_here)))
          (λ h. omega arith)

      pub row_found : zero_in_column n ok working rows columns (column_of B best) ≡ row_of B best
      row_found = rw (column_named, row_named) row_first

    -- ---- the least open value is what the key's value is above what has risen

    pub some_open : lowest n ok working rows columns < n * n
    some_open = dite (dec_lt (lowest n ok working rows columns) (n * n)) (λ h. h) (λ h. absurd (lowest_none n ok working rows columns (omega arith) i j hi hj o))

    pub least_found : get_or working (lowest n ok working rows columns) (pos 0) ≡ value_of B best -ℤ pos d
    least_found =
        let l = lowest_found n ok working rows columns some_open in
        let e = l.low i j hi hj o in
        let f = least_value l.row l.column l.row_below l.column_below l.is_open in
        let w = whole (cell (pos 0) n working i j) (above i j hi hj o.allowed) in
        let v = l.value in
        let k = whole (cell (pos 0) n working l.row l.column) (above l.row l.column l.row_below l.column_below l.is_open.allowed) in
        rw value_named (omega (signed, minus_parts (pos (P (cell (pos 0) n working i j) + d)) (pos d)))
