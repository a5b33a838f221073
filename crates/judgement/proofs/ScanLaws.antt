-- The judgement of a file by its definition: each test of each record, what a record does to the scan, and that the records come to a verdict.
use mathlib.Core.Path.{◌≡◌, refl, sym, ap, subst, ◌∙◌}
use mathlib.Core.Logic.{◌≢◌, dite}
use mathlib.Core.Bool.{true, false}
use mathlib.Core.List.{List, [], ◌∷◌, ◌++◌}
use Prim.Native.Nat.{ℕ, zero, suc, ◌+◌, ◌≤◌, ◌<◌}
use native.Mathlib.Omega.{arith}
use lib.ListN.{length, get_or, length-append}
use lib.Seq.{get_or_at}
use Rattle.std.proofs.lemmas.List.{get_or_append_left}
use native.Mathlib.Decide.{dec_lt}
use borrow.Author.Tests.{le-ltb, lt-ltb, eq-eqb, ne_eqb}
use Rattle.std.specs.Prelude.{Result, Ok, Err}
use Rattle.records.specs.declared.Missing.{Missing}
use Rattle.records.specs.declared.Missing.TheVariants.{Cut, Unknown}
use Rattle.records.specs.Records.{found, number}
use Rattle.judgement.specs.Numbers.{u16_at, u32_at}
use Rattle.judgement.specs.Scan as D
use Rattle.judgement.proofs.OneRecord.{Does, refuses, sizes, adds_row, adds_column, ends as ends-file, record_does}

-- ---- each record's tests

module _ (file : List ℕ) (s : D.Scan) where
  pub bad_zero : {n : ℕ} → n ≡ u16_at file (s.at + 1) → n ≡ 0 → D.bad_size file s ≡ true
  unfolding D.bad_size
  bad_zero {n} e z = rw (eq-eqb (u16_at file (s.at + 1)) 0 (sym e ∙ z))

  pub bad_large : {n : ℕ} → n ≡ u16_at file (s.at + 1) → n ≢ 0 → 64 < n → D.bad_size file s ≡ true
  unfolding D.bad_size
  bad_large {n} e z h = rw (ne_eqb (u16_at file (s.at + 1)) 0 (λ q. z (e ∙ q)), lt-ltb 64 (u16_at file (s.at + 1)) (omega arith))

  module _ {n w : ℕ} (e : n ≡ u16_at file (s.at + 1)) (ew : w ≡ u32_at file (s.at + 3)) (some : n ≢ 0) (few : n ≤ 64) where
    pub bad_window : 1_000_000_000 < w → D.bad_size file s ≡ true
    unfolding D.bad_size
    bad_window h = rw (
      ne_eqb (u16_at file (s.at + 1)) 0 (λ q. some (e ∙ q)),
      le-ltb 64 (u16_at file (s.at + 1)) (omega arith),
      lt-ltb 1_000_000_000 (u32_at file (s.at + 3)) (omega arith),
    )

    pub good_size : w ≤ 1_000_000_000 → D.bad_size file s ≡ false
    unfolding D.bad_size
    good_size h = rw (
      ne_eqb (u16_at file (s.at + 1)) 0 (λ q. some (e ∙ q)),
      le-ltb 64 (u16_at file (s.at + 1)) (omega arith),
      le-ltb 1_000_000_000 (u32_at file (s.at + 3)) (omega arith),
    )

  pub size_twice : s.n ≢ 0 → D.refused 23 s.at ≡ D.size file s
  unfolding D.size
  size_twice h = rw (ne_eqb s.n 0 h)

  pub size_bad : s.n ≡ 0 → D.bad_size file s ≡ true → D.refused 25 s.at ≡ D.size file s
  unfolding D.size
  size_bad z b = rw (eq-eqb s.n 0 z, b)

  pub size_good : s.n ≡ 0 → D.bad_size file s ≡ false → D.more (D.with_size s (u16_at file (s.at + 1)) (u32_at file (s.at + 3))) ≡ D.size file s
  unfolding D.size
  size_good z b = rw (eq-eqb s.n 0 z, b)

  pub end_early : s.n ≡ 0 → D.refused 23 s.at ≡ D.end file s
  unfolding D.end
  end_early z = rw (eq-eqb s.n 0 z)

  module _ (some : s.n ≢ 0) where
    pub end_few_rows : length s.fragments ≢ s.n → D.refused 24 s.at ≡ D.end file s
    unfolding D.end
    end_few_rows h = rw (ne_eqb s.n 0 some, ne_eqb (length s.fragments) s.n h)

    module _ (rows : length s.fragments ≡ s.n) where
      pub end_few_columns : length s.events ≢ s.n → D.refused 24 s.at ≡ D.end file s
      unfolding D.end
      end_few_columns h = rw (ne_eqb s.n 0 some, eq-eqb (length s.fragments) s.n rows, ne_eqb (length s.events) s.n h)

      module _ (columns : length s.events ≡ s.n) where
        pub end_late : s.at + 1 ≢ length file → D.refused 26 (s.at + 1) ≡ D.end file s
        unfolding D.end
        end_late h = rw (
          ne_eqb s.n 0 some,
          eq-eqb (length s.fragments) s.n rows,
          eq-eqb (length s.events) s.n columns,
          ne_eqb (s.at + 1) (length file) h,
        )

        pub end_good : s.at + 1 ≡ length file → D.accepted s ≡ D.end file s
        unfolding D.end
        end_good h = rw (
          ne_eqb s.n 0 some,
          eq-eqb (length s.fragments) s.n rows,
          eq-eqb (length s.events) s.n columns,
          eq-eqb (s.at + 1) (length file) h,
        )

  -- by what stands at the offset
  module _ {f : Result ℕ Missing} (e : f ≡ found file s.at) where
    pub record_missing : (missing : Missing) → f ≡ Err missing → D.refused (number (Err missing)) s.at ≡ D.judge_record file s
    unfolding D.judge_record D.record_of
    record_missing Cut p = ap (D.record_of file s) (sym p ∙ e)
    record_missing Unknown p = ap (D.record_of file s) (sym p ∙ e)

    pub record_whole : {k : ℕ} → f ≡ Ok k → D.by_kind file s ≡ D.judge_record file s
    unfolding D.judge_record D.record_of
    record_whole p = ap (D.record_of file s) (sym p ∙ e)

  -- by its kind
  pub kind_size : get_or file s.at 0 ≡ 1 → D.size file s ≡ D.by_kind file s
  unfolding D.by_kind
  kind_size h = rw h

  pub kind_fragment : get_or file s.at 0 ≡ 2 → D.fragment s ≡ D.by_kind file s
  unfolding D.by_kind
  kind_fragment h = rw h

  pub kind_event : get_or file s.at 0 ≡ 3 → D.event s ≡ D.by_kind file s
  unfolding D.by_kind
  kind_event h = rw h

  pub kind_end : get_or file s.at 0 ≢ 1 → get_or file s.at 0 ≢ 2 → get_or file s.at 0 ≢ 3 → D.end file s ≡ D.by_kind file s
  unfolding D.by_kind
  kind_end a b c = rw (ne_eqb (get_or file s.at 0) 1 a, ne_eqb (get_or file s.at 0) 2 b, ne_eqb (get_or file s.at 0) 3 c)

-- one line more
module _ (s : D.Scan) (count : ℕ) (next : D.Scan) where
  pub line_early : s.n ≡ 0 → D.refused 23 s.at ≡ D.line s count next
  unfolding D.line
  line_early z = rw (eq-eqb s.n 0 z)

  module _ (some : s.n ≢ 0) where
    pub line_many : count ≡ s.n → D.refused 24 s.at ≡ D.line s count next
    unfolding D.line
    line_many h = rw (ne_eqb s.n 0 some, eq-eqb count s.n h)

    pub line_good : count ≢ s.n → D.more next ≡ D.line s count next
    unfolding D.line
    line_good h = rw (ne_eqb s.n 0 some, ne_eqb count s.n h)

-- ---- what a record does

-- what an accepted file's scan tells
pub record Filled (s : D.Scan) : Type 0 where
  pub some : 0 < s.n
  pub small : s.n ≤ 64
  pub low : s.window ≤ 1_000_000_000
  pub rows : length s.fragments ≡ s.n
  pub columns : length s.events ≡ s.n

-- after one record: further on, or a verdict
abbrev pub After : List ℕ → D.Scan → D.Judged → Type 0
After file s (D.more t) = (s.at < t.at) × D.Consistent file t
After file s (D.refused number place) = 0 < number
After file s (D.accepted t) = Filled t × D.Consistent file t

-- offsets that are kept
offsets_none : {file : List ℕ} {n size : ℕ} → D.Offsets file n size []
offsets_none = record { few = omega arith; inside = λ i h. absurd (omega arith) }

offsets_more : {file : List ℕ} {n size : ℕ} (offsets : List ℕ) (at : ℕ) → D.Offsets file n size offsets → at + size ≤ length file → length offsets ≢ n
    → D.Offsets file n size (offsets ++ at ∷ [])
offsets_more {file} {n} {size} offsets at k fits fewer =
    let one = length-append offsets (at ∷ []) in
    record {
      few = omega (arith, one, k.few);
      inside = λ i h.
          dite (dec_lt i (length offsets))
          (λ l. rw (get_or_append_left offsets (at ∷ []) 0 i l) (k.inside i l))
          (λ l. let last : i ≡ length offsets = omega (arith, one) in rw (last, get_or_at offsets at [] 0 (length offsets) refl) fits);
    }

pub record_after : (file : List ℕ) (s : D.Scan) → D.Consistent file s → After file s (D.judge_record file s)
record_after file s h = go (record_does file s)
  where
    go : {j : D.Judged} → Does file s j → After file s j
    go (refuses number place r) = omega (arith, r.low)
    go (sizes r) = (omega arith, record { inside = r.fits; small = r.small; low = r.low; rows = offsets_none; columns = offsets_none })
    go (adds_row r) =
        (omega arith, record { inside = r.fits; small = h.small; low = h.low; rows = offsets_more s.fragments s.at h.rows r.fits r.fewer; columns = h.columns })
    go (adds_column r) =
        (omega arith, record { inside = r.fits; small = h.small; low = h.low; rows = h.rows; columns = offsets_more s.events s.at h.columns r.fits r.fewer })
    go (ends-file r) = let some = r.some in (record { some = omega arith; small = h.small; low = h.low; rows = r.rows; columns = r.columns }, h)

-- ---- the verdict

module _ (file : List ℕ) where
  pub stays_refused : (k number place : ℕ) → D.judge_from file k (D.refused number place) ≡ D.refused number place
  unfolding D.judge_from
  stays_refused zero number place = refl
  stays_refused (suc k) number place = refl

  pub stays_accepted : (k : ℕ) (s : D.Scan) → D.judge_from file k (D.accepted s) ≡ D.accepted s
  unfolding D.judge_from
  stays_accepted zero s = refl
  stays_accepted (suc k) s = refl

abbrev Ended : List ℕ → D.Judged → Type 0
Ended file (D.more s) = ⊥
Ended file (D.refused number place) = 0 < number
Ended file (D.accepted s) = Filled s × D.Consistent file s

-- with more records allowed than there are bytes left
ends : (file : List ℕ) (k : ℕ) (s : D.Scan) → D.Consistent file s → length file < s.at + k → Ended file (D.judge_from file k (D.more s))
unfolding D.judge_from
ends file zero s h room = absurd (omega (arith, h.inside))
ends file (suc k) s h room = go (D.judge_record file s) (record_after file s h) (ends file k)
  where
    go : (j : D.Judged) → After file s j → ((t : D.Scan) → D.Consistent file t → length file < t.at + k → Ended file (D.judge_from file k (D.more t))) → Ended file (D.judge_from file k j)
    go (D.more t) a rest = rest t a.1 (omega (arith, a.0))
    go (D.refused number place) a rest = rw (stays_refused file k number place) a
    go (D.accepted t) a rest = rw (stays_accepted file k t) a

pub start_consistent : {file : List ℕ} → D.Consistent file D.start
start_consistent = record { inside = omega arith; small = omega arith; low = omega arith; rows = offsets_none; columns = offsets_none }

judged_ends : (file : List ℕ) → Ended file (D.judged file)
unfolding D.judged
judged_ends file = ends file (length file + 1) D.start start_consistent (omega arith)

module _ (file : List ℕ) {s : D.Scan} where
  pub never_more : D.judged file ≡ D.more s → ⊥
  never_more e = subst (Ended file) e (judged_ends file)

  pub accepted_filled : D.judged file ≡ D.accepted s → Filled s
  accepted_filled e = (subst (Ended file) e (judged_ends file)).0

  -- its offsets are those of records that lie within the file
  pub accepted_consistent : D.judged file ≡ D.accepted s → D.Consistent file s
  accepted_consistent e = (subst (Ended file) e (judged_ends file)).1

-- a refusal's number is never that of an accepted file
pub refused_some : (file : List ℕ) {number place : ℕ} → D.judged file ≡ D.refused number place → 0 < number
refused_some file e = subst (Ended file) e (judged_ends file)
