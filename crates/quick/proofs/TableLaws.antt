-- A run whose keys stand in a table: bounds, and what a column's terms are when it opens.
use mathlib.Core.Path.{◌≡◌, sym, ap, ◌∙◌}
use mathlib.Core.Bool.{Bool, true, false, not, cond}
use mathlib.Core.List.{List}
use Prim.Native.Nat.{ℕ, ◌+◌, ◌*◌, ◌≤◌, ◌<◌}
use native.Mathlib.Omega.{arith}
use lib.Dec.{T, ltb, ltb→lt, nltb→le, lt→ltb}
use lib.IntN.{ℤ, pos, ◌+ℤ◌, ◌-ℤ◌, ◌*ℤ◌}
use lib.Signed.{◌≤ℤ◌}
use lib.ListN.{length, get_or}
use Rattle.lines.specs.Square.{cell}
use Rattle.lines.specs.Bounds.{Within}
use Rattle.lines.proofs.Signed.{signed, plus_parts, minus_parts, neg_parts, within_zero}
use Rattle.lines.specs.Count.{count}
use Rattle.lines.proofs.Counts.{count_inj, count_miss}
use Rattle.lines.proofs.Squares.{place_lt, place_in, place_back, length_square, square_at}
use Rattle.steps.specs.Lent.{allows, cost_at}
use Rattle.steps.specs.Steps.{Machine, star_in_column}
use Rattle.steps.specs.Going.{Priced, Search, has_star}
use Rattle.steps.proofs.Marks.{find_row}
use Rattle.ground.proofs.GoodLaws.{kept_bounds}
use Rattle.keyed.specs.Keys.{far, limit, pack, entry}
use Rattle.keyed.specs.Best.{key_at}
use Rattle.keyed.specs.Asks.{Safe}
use Rattle.keyed.specs.Opening.{term_at, own_term}
use Rattle.quick.specs.Shown.{most_value, Tabled}
use Rattle.keyed.proofs.Packs.{times_parts}
use Rattle.keyed.proofs.Opens.{term_told, term_shut}

pub within_more : {L M : ℕ} {z : ℤ} → L ≤ M → Within L z → Within M z
within_more {L} {M} {z} h w = record { above = omega (signed, w.above, neg_parts (pos L), neg_parts (pos M)); below = omega (signed, w.below) }

module _ {n : ℕ} {costs : List ℤ} {mask : List ℕ} {budget : ℕ} {m : Machine} {keys : List ℤ} (h : Tabled n costs mask budget m keys) where
  abbrev pub ok : ℕ → ℕ → Bool
  ok = allows n mask

  abbrev pub cost : ℕ → ℕ → ℤ
  cost = cost_at n costs

  -- ---- what holds of the machine

  pub priced : Priced n ok cost m
  priced = h.kept.going.priced

  pub above : (i j : ℕ) → i < n → j < n → T (ok i j) → pos 0 ≤ℤ cell (pos 0) n m.working i j
  above = priced.whole

  pub row_small : (i : ℕ) → i < n → Within most_value (get_or m.row_prices i (pos 0))
  row_small i hi = within_more h.holds ((kept_bounds h.kept).rows i hi)

  pub column_small : (j : ℕ) → j < n → Within most_value (get_or m.column_prices j (pos 0))
  column_small j hj = within_more h.holds ((kept_bounds h.kept).columns j hj)

  pub cell_small : (i j : ℕ) → i < n → j < n → Within most_value (cell (pos 0) n m.working i j)
  cell_small i j hi hj = within_more h.holds ((kept_bounds h.kept).cells (i * n + j) (place_lt n i j hi hj))

  -- ---- the table

  pub table_cell : (i j : ℕ) → i < n → j < n → get_or keys (j * n + i) (pos 0) ≡ entry 64 ok cost j i
  table_cell i j hi hj = rw h.table (square_at (pos 0) (entry 64 ok cost) n j i hj hi)

  entry_small : (i j : ℕ) → i < n → j < n → Within 4611686018427387904 (entry 64 ok cost j i)
  unfolding entry pack
  entry_small i j hi hj = go (ok i j) (λ t. h.frame.range i j hi hj t)
    where
      go : (x : Bool) → (T x → Within 1_000_000_000 (cost i j)) → Within 4611686018427387904 (cond x (cost i j *ℤ pos 4096 +ℤ pos (j * 64 + i)) far)
      go true w =
          let b = w tt in
          record {
            above = omega (signed, b.above, times_parts (cost i j) 4096, plus_parts (cost i j *ℤ pos 4096) (pos (j * 64 + i)), neg_parts (pos 1_000_000_000), neg_parts (pos 4611686018427387904));
            below = omega (signed, b.below, times_parts (cost i j) 4096, plus_parts (cost i j *ℤ pos 4096) (pos (j * 64 + i)), neg_parts (pos 4611686018427387904), h.frame.word.most);
          }
      go false w = record { above = omega (signed, neg_parts (pos 4611686018427387904)); below = omega signed }

  key_small : (q : ℕ) → q < n * n → Within 4611686018427387904 (get_or keys q (pos 0))
  key_small q hq =
      let p = place_in n q hq in
      let e = place_back n q in
      rw e at (rw (sym (table_cell _ _ p.1 p.0)) at (entry_small _ _ p.1 p.0))

  pub safe : (rise : ℤ) → Within 1099511627776 rise → Safe n rise keys m.row_prices m.column_prices
  safe rise w = record {
    word = h.frame.word;
    keys_square = ap length h.table ∙ length_square (entry 64 ok cost) n;
    row_lines = h.kept.going.shape.row_prices;
    column_lines = h.kept.going.shape.column_prices;
    row_within = λ i hi. within_more (omega arith) (row_small i hi);
    column_within = λ j hj. within_more (omega arith) (column_small j hj);
    risen_within = w;
    entry_within = key_small;
  }

  -- ---- an opened column's terms

  module _ (rise : ℤ) where
    pub told_at : (s : ℕ) → s < n → (i : ℕ) → i < n → T (ok i s)
        → term_at n keys m.row_prices s (get_or m.column_prices s (pos 0) -ℤ rise) i ≡ key_at 64 n ok limit m.working rise i s
    told_at s hs i hi t = rw (table_cell i s hi hs) (term_told 64 ok cost i s _ _ (cell (pos 0) n m.working i s) rise t (priced.equation i s hi hs t))

    pub shut_at : Within 549755813888 rise → (s : ℕ) → s < n → (i : ℕ) → i < n → T (not (ok i s))
        → limit ≤ℤ term_at n keys m.row_prices s (get_or m.column_prices s (pos 0) -ℤ rise) i
    shut_at w s hs i hi t =
        let p = get_or m.row_prices i (pos 0) in
        let q = get_or m.column_prices s (pos 0) in
        rw (table_cell i s hi hs) (term_shut 64 ok cost i s p q (pos 0) rise limit 2199023255552 t
        (omega (signed, (row_small i hi).below, (column_small s hs).below, w.above, plus_parts p (q -ℤ rise), minus_parts q rise, neg_parts (pos 549755813888)))
        (omega signed))

  -- the same of a column at its own price, when nothing has risen
  pub told_own : (i j : ℕ) → i < n → j < n → T (ok i j) → own_term n keys m.row_prices m.column_prices j i ≡ pack 64 (cell (pos 0) n m.working i j +ℤ pos 0) j i
  told_own i j hi hj t =
      let q = get_or m.column_prices j (pos 0) in
      let e : q ≡ q -ℤ pos 0 = omega (signed, minus_parts q (pos 0)) in
      ap (λ y. term_at n keys m.row_prices j y i) e ∙ told_at (pos 0) j hj i hi t

  pub shut_own : (i j : ℕ) → i < n → j < n → T (not (ok i j)) → limit ≤ℤ own_term n keys m.row_prices m.column_prices j i
  shut_own i j hi hj t =
      let q = get_or m.column_prices j (pos 0) in
      let e : q -ℤ pos 0 ≡ q = omega (signed, minus_parts q (pos 0)) in
      rw e at (shut_at (pos 0) (within_zero 549755813888) j hj i hi t)

-- ---- a column without a star, while one is missing

module _ {n : ℕ} {ok : ℕ → ℕ → Bool} {working : List ℤ} {marks : List ℕ} {rows columns : ℕ} (s : Search n ok working marks rows columns) where
  abbrev has_row : ℕ → Bool
  has_row j = ltb (s.row j) n

  -- such columns are as many as the rows with a star
  has_back : (j : ℕ) → j < n → T (has_row j) → (s.row j < n) × (s.star (s.row j) ≡ j)
  has_back j hj t = let l = ltb→lt (s.row j) n t in (l, (s.phase.matching.back j hj l).1)

  as_many : count has_row n ≤ count (has_star n s.star) n
  as_many =
      count_inj has_row (has_star n s.star) s.row n n
      (λ j hj t. let b = has_back j hj t in (b.0, rw b.1 (lt→ltb j n hj)))
      (λ a b ha hb ta tb e. cc ((has_back a ha ta).1, (has_back b hb tb).1))

  pub free_of : (j : ℕ) × (j < n) × (n ≤ star_in_column n marks j)
  free_of =
      let x = count_miss has_row n (omega (arith, as_many, s.missing)) in
      let l = nltb→le (s.row x.0) n x.2 in
      (x.0, x.1, omega (arith, l, find_row s.shows s.row s.phase.matching x.0 x.1))
