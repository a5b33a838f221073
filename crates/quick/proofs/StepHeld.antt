-- One step of the code against one step of the machine: each way that the code goes leaves what the machine's step leaves.
use mathlib.Core.Path.{◌≡◌, refl, sym, ap, ◌∙◌}
use mathlib.Core.Logic.{◌≢◌}
use mathlib.Core.Bool.{Bool, true, false, cond}
use mathlib.Core.List.{List}
use Prim.Native.Nat.{ℕ, ◌+◌, ◌*◌, ◌≤◌, ◌<◌}
use native.Mathlib.Omega.{arith}
use borrow.Author.Tests.{lt-ltb, le-ltb, eq-eqb, ne_eqb}
use lib.Dec.{ltb}
use lib.IntN.{ℤ, pos, ◌+ℤ◌, ◌-ℤ◌}
use lib.Signed.{lt_z}
use lib.ListN.{length, get_or, set}
use Rattle.lines.specs.Count.{count}
use Rattle.lines.specs.Square.{table}
use Rattle.lines.specs.Sets.{has, with, rest}
use Rattle.lines.proofs.Tests.{T_false, by_cases, clash}
use Rattle.lines.proofs.Counts.{count_ext}
use Rattle.lines.proofs.Sets.{ext, has_empty, has_rest, has_those, those_lt}
use Rattle.lines.proofs.Signed.{signed, plus_parts, minus_parts}
use Rattle.steps.specs.Lent.{allows}
use Rattle.steps.specs.Steps.{Machine, machine, star_in_row, star_in_column, covering, reaching, adjusting, augmenting, to, followed, lowered, raised}
use Rattle.steps.specs.Going.{Open, OpenZero, Starred, Search, Ready}
use Rattle.steps.proofs.Adjusted.{raised_at}
use Rattle.steps.proofs.Search.{begun}
use Rattle.steps.proofs.Marks.{find_row}
use Rattle.ground.proofs.Arms.{arm_3, arm_4, arm_5, arm_6}
use Rattle.ground.proofs.GoodLaws.{sound_at}
use Rattle.std.specs.Int.{int_min}
use Rattle.keyed.specs.Keys.{limit, value_of, row_of, column_of, lowered_key, least_key}
use Rattle.keyed.specs.Best.{key_at, Best}
use Rattle.keyed.specs.Opening.{term_at, Known, Opens}
use Rattle.starred.specs.Columns.{starred}
use Rattle.starred.specs.Flipping.{flipped, Follows}
use Rattle.quick.specs.Shown.{Lines, During, Held}
use Rattle.quick.proofs.Choose.{zero_here, row_named, column_named}
use Rattle.keyed.proofs.Opens.{best_of, keys_covered, keys_opened}
use Rattle.keyed.proofs.OpenColumns.{beyond}
use Rattle.keyed.proofs.Cheapests.{known_raised}
use Rattle.starred.proofs.Free.{is_free, free_is}
use Rattle.quick.proofs.KnownLaws.{known_flipped}
use Rattle.quick.proofs.Adjusts.{keys_adjusted, best_adjusted}
use Rattle.quick.proofs.Keyed.{keyed_none, keyed_above, keyed_zero, keyed_blocked, keyed_spent, keyed_adjusts}
use Rattle.quick.proofs.LineLaws.{lines_primed, same_star, same_owner}
use Rattle.quick.proofs.PathLaws.{path_follows, lines_flipped}
use Rattle.quick.proofs.TableLaws.{above, told_at, shut_at, told_own, shut_own, column_small, free_of}
use Rattle.quick.proofs.HeldLaws.{bounded, risen_small, held_next}
use Rattle.steps.specs.Steps as S

module _ {n : ℕ} {costs : List ℤ} {mask : List ℕ} {budget : ℕ} {m : Machine} {risen best : ℤ} {keys : List ℤ} {star owner prime cheapest : List ℕ} {key : List ℤ}
    (h : Held n costs mask budget m risen best keys star owner prime cheapest key) where
  abbrev ok : ℕ → ℕ → Bool
  ok = allows n mask

  abbrev next : Machine
  next = S.step n ok budget m

  module _ (d : During n ok m risen best key) where
    -- by the rise as a natural number
    least : Best 64 n ok limit m.working m.run.rows m.run.columns (pos d.rise) best
    least = rw d.risen_is at d.least

    limited : (i j : ℕ) → i < n → j < n → Open ok m.run.rows m.run.columns i j → lt_z (key_at 64 n ok limit m.working (pos d.rise) i j) limit ≡ true
    limited = rw d.risen_is at (bounded h d)

  -- ---- step 4

  module _ (e : m.run.next ≡ S.Step4) (d : During n ok m risen best key) where
    -- no zero
    pub none_made : (lt_z best limit ≡ false) → next ≡ machine (to S.Step6 m.run) m.working m.marks m.row_prices m.column_prices
    none_made f = sym (arm_4 n ok budget m e (sym (keyed_none 64 n ok limit h.tabled.frame.word.most m.working m.run d.rise (above h.tabled) (least d) m.marks (limited d) f)))

    pub above_made : lt_z best limit ≡ true → lt_z risen (value_of 64 best) ≡ true → next ≡ machine (to S.Step6 m.run) m.working m.marks m.row_prices m.column_prices
    above_made f t =
        sym (arm_4 n ok budget m e (sym (keyed_above 64 n ok limit h.tabled.frame.word.most m.working m.run d.rise (above h.tabled) (least d) m.marks f (rw d.risen_is at t))))

    pub held_none : next ≡ machine (to S.Step6 m.run) m.working m.marks m.row_prices m.column_prices
        → Held n costs mask budget next risen best keys star owner prime cheapest key
    held_none q = held_next h q h.lines h.known (record {
      rise = d.rise;
      risen_is = d.risen_is;
      keys = d.keys;
      least = d.least;
      free = d.free;
      free_below = d.free_below;
      bare = d.bare;
      from = d.from;
    })

    -- a zero, at the place that the key names
    module _ (near : lt_z best limit ≡ true) (zero : lt_z risen (value_of 64 best) ≡ false) where
      z0 : lt_z (pos d.rise) (value_of 64 best) ≡ false
      z0 = rw d.risen_is at zero

      abbrev i : ℕ
      i = row_of 64 best

      abbrev j : ℕ
      j = column_of 64 best

      search : Search n ok m.working m.marks m.run.rows m.run.columns
      search = sound_at h.tabled.kept S.Step4 e

      at : OpenZero n ok m.working m.run.rows m.run.columns i j
      at =
          let k = (least d).hit near in
          let r = row_named 64 n ok limit h.tabled.frame.word.most m.working m.run.rows m.run.columns d.rise (above h.tabled) (least d) near in
          let c = column_named 64 n ok limit h.tabled.frame.word.most m.working m.run.rows m.run.columns d.rise (above h.tabled) (least d) near in
          rw (r, c) (record {
            row_below = k.row_below;
            column_below = k.in_row.column_below;
            is_open = k.in_row.is_open;
            zero = zero_here 64 n ok limit h.tabled.frame.word.most m.working m.run.rows m.run.columns d.rise (above h.tabled) (least d) near z0;
          })

      abbrev marked : List ℕ
      marked = set m.marks (i * n + j) 2

      -- the star that the array has
      star_at : get_or star i 0 ≡ star_in_row n marked i
      star_at = h.lines.star_is i at.row_below ∙ sym (same_star search i j at i)

      lines : Lines n marked star owner (set prime i j)
      lines = lines_primed search i j at h.lines

      zero_made : next ≡ machine (cond (ltb (star_in_row n marked i) n) (covering i (star_in_row n marked i) m.run) (reaching i j m.run)) m.working marked m.row_prices m.column_prices
      zero_made = sym (arm_4 n ok budget m e (sym (keyed_zero 64 n ok limit h.tabled.frame.word.most m.working m.run d.rise (above h.tabled) (least d) m.marks near z0)))

      -- in a row without a star
      pub reaches_made : n ≤ get_or star i 0 → next ≡ machine (reaching i j m.run) m.working marked m.row_prices m.column_prices
      reaches_made l =
          zero_made ∙ ap (λ b. machine (cond b (covering i (star_in_row n marked i) m.run) (reaching i j m.run)) m.working marked m.row_prices m.column_prices)
          (le-ltb (star_in_row n marked i) n (rw star_at at l))

      pub held_reaches : {risen' best' : ℤ} → n ≤ get_or star i 0 → Held n costs mask budget next risen' best' keys star owner (set prime i j) cheapest key
      unfolding reaching
      held_reaches l = held_next h (reaches_made l) lines h.known tt

      -- in a row with one
      module _ (l : get_or star i 0 < n) where
        abbrev s : ℕ
        s = get_or star i 0

        pub covers_made : next ≡ machine (covering i s m.run) m.working marked m.row_prices m.column_prices
        covers_made =
            zero_made
            ∙ ap (λ b. machine (cond b (covering i (star_in_row n marked i) m.run) (reaching i j m.run)) m.working marked m.row_prices m.column_prices)
            (lt-ltb (star_in_row n marked i) n (rw star_at at l))
            ∙ ap (λ x. machine (covering i x m.run) m.working marked m.row_prices m.column_prices) (sym star_at)

        abbrev term : ℕ → ℤ
        term = term_at n keys m.row_prices s (get_or m.column_prices s (pos 0) -ℤ risen)

        pub held_covers : (key' : List ℤ)
            → ((a : ℕ) → a < n → get_or key' a (pos 0) ≡ lowered_key (with m.run.rows i) term a (get_or key a (pos 0)))
            → Held n costs mask budget next risen (least_key (with m.run.rows i) (λ a. int_min (get_or key a (pos 0)) (term a)) n) keys star owner (set prime i j) cheapest key'
        unfolding covering lowered_key
        held_covers key' new =
            let k0 = keys_covered 64 n ok limit beyond m.working risen i d.keys in
            let k1 = keys_opened 64 n ok limit beyond m.working risen {rows = with m.run.rows i} {columns = m.run.columns} {key = λ a. get_or key a (pos 0)} {key' = λ a. get_or key' a (pos 0)} {term = term} s l (λ a ha u t. told_at h.tabled risen s l a ha t) (λ a ha u t. shut_at h.tabled risen (risen_small h d) s l a ha t)
            (λ a ha u. new a ha ∙ rw (T_false (has (with m.run.rows i) a) u)) k0 in
            let k2 = keys_opened 64 n ok limit beyond m.working risen {rows = with m.run.rows i} {columns = m.run.columns} {key = λ a. get_or key a (pos 0)} {key' = λ a. int_min (get_or key a (pos 0)) (term a)} {term = term} s l (λ a ha u t. told_at h.tabled risen s l a ha t) (λ a ha u t. shut_at h.tabled risen (risen_small h d) s l a ha t)
            (λ a ha u. refl) k0 in
            held_next h covers_made lines h.known (record {
              rise = d.rise;
              risen_is = d.risen_is;
              keys = k1;
              least = best_of 64 n ok limit beyond m.working risen k2;
              free = d.free;
              free_below = d.free_below;
              bare = rw (same_owner search i j at d.free d.free_below) d.bare;
              from = d.from;
            })

  -- ---- step 6

  module _ (e : m.run.next ≡ S.Step6) (d : During n ok m risen best key) where
    pub blocked_made : lt_z best limit ≡ false → next ≡ machine (to S.NoPairing m.run) m.working m.marks m.row_prices m.column_prices
    blocked_made f =
        sym (arm_6 n ok budget m e (sym (keyed_blocked 64 n ok limit h.tabled.frame.word.most m.working m.run d.rise (above h.tabled) (least d) budget m.row_prices m.column_prices (limited d) f)))

    pub held_blocked : lt_z best limit ≡ false → Held n costs mask budget next risen best keys star owner prime cheapest key
    held_blocked f = held_next h (blocked_made f) h.lines h.known tt

    module _ (near : lt_z best limit ≡ true) where
      pub spent_made : m.run.adjustments ≡ budget → next ≡ machine (to S.Unfinished m.run) m.working m.marks m.row_prices m.column_prices
      spent_made q =
          sym (arm_6 n ok budget m e (sym (keyed_spent 64 n ok limit h.tabled.frame.word.most m.working m.run d.rise (above h.tabled) (least d) budget m.row_prices m.column_prices near q)))

      pub held_spent : m.run.adjustments ≡ budget → Held n costs mask budget next risen best keys star owner prime cheapest key
      held_spent q = held_next h (spent_made q) h.lines h.known tt

      abbrev z : ℤ
      z = value_of 64 best -ℤ risen

      pub adjusts_made : m.run.adjustments ≢ budget
          → next ≡ machine (adjusting m.run) (followed n ok z m.run.rows m.run.columns m.working) m.marks (lowered z m.run.rows m.row_prices) (raised z m.run.columns m.column_prices)
      adjusts_made q =
          sym (arm_6 n ok budget m e (sym (keyed_adjusts 64 n ok limit h.tabled.frame.word.most m.working m.run d.rise (above h.tabled) (least d) budget m.row_prices m.column_prices near q)))
          ∙ ap (λ r. let x = value_of 64 best -ℤ r in
          machine (adjusting m.run) (followed n ok x m.run.rows m.run.columns m.working) m.marks (lowered x m.run.rows m.row_prices) (raised x m.run.columns m.column_prices))
          (sym d.risen_is)

      -- a column without a star is not covered, so it rises
      free_open : (j : ℕ) → j < n → n ≤ star_in_column n m.marks j → has m.run.columns j ≡ false
      free_open j hj bare =
          let s : Search n ok m.working m.marks m.run.rows m.run.columns = (sound_at h.tabled.kept S.Step6 e).0 in
          by_cases (has m.run.columns j)
          (λ y. let c = s.phase.crossed j hj (rw y tt) in absurd (omega (arith, c.0, find_row s.shows s.row s.phase.matching j hj, bare)))
          (λ y. y)

      free_raised : (j : ℕ) → j < n → n ≤ star_in_column n m.marks j → get_or (raised z m.run.columns m.column_prices) j (pos 0) ≡ get_or m.column_prices j (pos 0) +ℤ z
      free_raised j hj bare = raised_at z m.run.columns m.column_prices j (omega (arith, hj, h.tabled.kept.going.shape.column_prices)) ∙ rw (free_open j hj bare)

      known_risen : Known n (starred n owner) keys (lowered z m.run.rows m.row_prices) (raised z m.run.columns m.column_prices) cheapest
      known_risen =
          known_raised n (starred n owner) keys m.row_prices m.column_prices (lowered z m.run.rows m.row_prices) (raised z m.run.columns m.column_prices) cheapest z
          (λ j hj f. free_raised j hj (rw (h.lines.owner_is j hj) at (is_free n owner j hj f)))
          h.known

      pub held_adjusts : m.run.adjustments ≢ budget → Held n costs mask budget next (value_of 64 best) best keys star owner prime cheapest key
      unfolding adjusting value_of
      held_adjusts q =
          let c = get_or m.column_prices d.free (pos 0) in
          let v = value_of 64 best in
          let rise : v ≡ risen +ℤ z = omega (signed, minus_parts v risen, plus_parts risen z) in
          let new : get_or (raised z m.run.columns m.column_prices) d.free (pos 0) ≡ c +ℤ z =
          free_raised d.free d.free_below d.bare in
          let same : (c +ℤ z) -ℤ v ≡ c -ℤ risen = omega (signed, minus_parts v risen, plus_parts c z, minus_parts (c +ℤ z) v, minus_parts c risen) in
          held_next h (adjusts_made q) h.lines known_risen (record {
            rise = _;
            risen_is = refl;
            keys = rw (← rise) at (keys_adjusted 64 n ok limit m.working m.run.rows m.run.columns risen z h.tabled.kept.going.shape.working d.keys);
            least = rw (← rise) at (best_adjusted 64 n ok limit m.working m.run.rows m.run.columns risen z h.tabled.kept.going.shape.working d.least);
            free = d.free;
            free_below = d.free_below;
            bare = d.bare;
            from = rw (new, same) d.from;
          })

  -- ---- step 5

  module _ (i j : ℕ) (e : m.run.next ≡ S.Step5 i j) where
    ready : Ready n ok m.working m.marks m.run.rows m.run.columns i j
    ready = sound_at h.tabled.kept (S.Step5 i j) e

    pub walks : Follows n prime n owner i j
    walks = path_follows ready h.lines

    abbrev flipped_marks : List ℕ
    flipped_marks = S.clear_primes (S.flip n m.marks (S.path n m.marks n i j))

    pub flips_made : next ≡ machine (augmenting m.run) m.working flipped_marks m.row_prices m.column_prices
    unfolding S.step5
    flips_made = sym (arm_5 n ok budget m e refl)

    pub held_flips : {star' owner' prime' : List ℕ} (risen' best' : ℤ) → (star', owner') ≡ flipped n prime n star owner i j → prime' ≡ table (λ k. n) (length prime)
        → Held n costs mask budget next risen' best' keys star' owner' prime' cheapest key
    unfolding augmenting
    held_flips risen' best' a b = held_next h flips_made (lines_flipped ready h.lines a b)
        (known_flipped n prime star owner i j keys m.row_prices m.column_prices cheapest walks h.lines.owner_long a h.known) tt

  -- ---- step 3

  module _ (e : m.run.next ≡ S.Step3) where
    at_3 : Starred n ok m.working m.marks × (m.run.rows ≡ 0)
    at_3 = sound_at h.tabled.kept S.Step3 e

    -- what the arrays count is what the marks show
    columns_are : starred n owner ≡ S.star_columns n m.marks
    unfolding S.star_columns
    columns_are =
        ext n _ _ (those_lt _ n) (those_lt _ n)
        (λ b hb. has_those _ n b hb ∙ ap (λ x. ltb x n) (h.lines.owner_is b hb) ∙ sym (has_those (λ b. ltb (star_in_column n m.marks b) n) n b hb))

    stars_are : count (λ a. ltb (get_or star a 0) n) n ≡ S.star_count n m.marks
    unfolding S.star_count
    stars_are = count_ext _ _ n (λ a ha. ap (λ x. ltb x n) (h.lines.star_is a ha))

    abbrev crossed : S.Next → S.Run
    crossed x = S.run_with m.run.rows (starred n owner) m.run.adjustments m.run.primes m.run.augmentations x

    pub full_made : count (λ a. ltb (get_or star a 0) n) n ≡ n → next ≡ machine (crossed S.Paired) m.working m.marks m.row_prices m.column_prices
    unfolding S.step3
    full_made q =
        sym (arm_3 n ok budget m e refl) ∙ rw (← columns_are, ← stars_are, eq-eqb (count (λ a. ltb (get_or star a 0) n) n) n q)

    pub part_made : count (λ a. ltb (get_or star a 0) n) n ≢ n → next ≡ machine (crossed S.Step4) m.working m.marks m.row_prices m.column_prices
    unfolding S.step3
    part_made q =
        sym (arm_3 n ok budget m e refl) ∙ rw (← columns_are, ← stars_are, ne_eqb (count (λ a. ltb (get_or star a 0) n) n) n q)

    pub held_full : {key' : List ℤ} (risen' best' : ℤ) → count (λ a. ltb (get_or star a 0) n) n ≡ n
        → Held n costs mask budget next risen' best' keys star owner prime cheapest key'
    held_full risen' best' q = held_next h (full_made q) h.lines h.known tt

    -- a column without a star, by the marks and by the set
    free_column : count (λ a. ltb (get_or star a 0) n) n ≢ n → (b : ℕ) × (b < n) × (n ≤ star_in_column n m.marks b)
    free_column q = free_of (begun n ok {rows = m.run.rows} {columns = starred n owner} at_3.0 at_3.1 columns_are (λ x. q (stars_are ∙ x)))

    pub some_free : count (λ a. ltb (get_or star a 0) n) n ≢ n → rest n (starred n owner) ≢ 0
    some_free q none =
        let f = free_column q in
        let bare = free_is n owner f.0 f.1 (rw (h.lines.owner_is f.0 f.1) f.2) in
        clash (has (rest n (starred n owner)) f.0) (has_rest n (starred n owner) f.0 f.1 ∙ rw bare) (rw (none, has_empty f.0))

    pub held_part : {cheapest' : List ℕ} {key' : List ℤ} (best' : ℤ) → count (λ a. ltb (get_or star a 0) n) n ≢ n
        → Opens n 0 (starred n owner) keys m.row_prices m.column_prices key' best'
        → Known n (starred n owner) keys m.row_prices m.column_prices cheapest'
        → Held n costs mask budget next (pos 0) best' keys star owner prime cheapest' key'
    held_part {key' = key'} best' q o w =
        let f = free_column q in
        let x = o ok m.working (told_own h.tabled) (shut_own h.tabled) in
        let c = get_or m.column_prices f.0 (pos 0) in
        let same : c -ℤ pos 0 ≡ c = omega (signed, minus_parts c (pos 0)) in
        held_next h (part_made q) h.lines w (record {
          rise = 0;
          risen_is = refl;
          keys = rw at_3.1 x.0;
          least = rw at_3.1 x.1;
          free = f.0;
          free_below = f.1;
          bare = f.2;
          from = rw same (column_small h.tabled f.0 f.1);
        })
