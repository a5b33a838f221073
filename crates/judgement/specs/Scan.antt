-- The judgement of a case file, record after record: 21, 22, 23, 25, 24, 26 in that order, each with its place.
use Rattle.std.specs.Prelude.{Bool, cond, not, ◌&&◌, ◌||◌, List, [], ◌∷◌, ◌++◌, ℕ, zero, suc, ◌+◌, eqb, ltb, length, get_or, ◌≤◌, ◌<◌, Result, Ok, Err}
use Rattle.records.specs.declared.Missing.{Missing}
use Rattle.records.specs.declared.Missing.TheVariants.{Cut, Unknown}
use Rattle.records.specs.Records.{found, number}
use Rattle.judgement.specs.Numbers.{u16_at, u32_at}

-- ---- the scan

-- what has been read: the offset of the next record, the size (0 before it is read), and the offsets of the fragments and events in file order
pub record Scan : Type 0 where
  pub at : ℕ
  pub n : ℕ
  pub window : ℕ
  pub fragments : List ℕ
  pub events : List ℕ

abbrev pub scan_with : ℕ → ℕ → ℕ → List ℕ → List ℕ → Scan
scan_with at n window fragments events = record { at = at; n = n; window = window; fragments = fragments; events = events }

-- the offsets of whole records of `size` bytes, of which there may be n
pub record Offsets (file : List ℕ) (n size : ℕ) (offsets : List ℕ) : Type 0 where
  pub few : length offsets ≤ n
  pub inside : (i : ℕ) → i < length offsets → get_or offsets i 0 + size ≤ length file

-- what holds between two records
pub record Consistent (file : List ℕ) (s : Scan) : Type 0 where
  pub inside : s.at ≤ length file
  pub small : s.n ≤ 64
  pub low : s.window ≤ 1_000_000_000
  pub rows : Offsets file s.n 9 s.fragments
  pub columns : Offsets file s.n 7 s.events

-- before the first record
abbrev pub start : Scan
start = scan_with 0 0 0 [] []

-- behind the size, behind a fragment, and behind an event
abbrev pub with_size : Scan → ℕ → ℕ → Scan
with_size s n window = scan_with (s.at + 7) n window [] []

abbrev pub with_row : Scan → Scan
with_row s = scan_with (s.at + 9) s.n s.window (s.fragments ++ (s.at ∷ [])) s.events

abbrev pub with_column : Scan → Scan
with_column s = scan_with (s.at + 7) s.n s.window s.fragments (s.events ++ (s.at ∷ []))

pub data Judged : Type 0 where
  -- the next record is to be judged
  more : Scan → Judged
  -- a number, and the place
  refused : ℕ → ℕ → Judged
  accepted : Scan → Judged

-- ---- one record

-- a fragment or an event, of which there were `count`: after the size, and not one too many
unfoldable pub line : Scan → ℕ → Scan → Judged
line s count next =
    cond (eqb s.n 0) (refused 23 s.at)
    (cond (eqb count s.n) (refused 24 s.at) (more next))

abbrev pub fragment : Scan → Judged
fragment s = line s (length s.fragments) (with_row s)

abbrev pub event : Scan → Judged
event s = line s (length s.events) (with_column s)

module _ (file : List ℕ) (s : Scan) where
  -- n is 0 or above 64, or the window is above 1,000,000,000
  unfoldable pub bad_size : Bool
  bad_size = eqb (u16_at file (s.at + 1)) 0 || ltb 64 (u16_at file (s.at + 1)) || ltb 1_000_000_000 (u32_at file (s.at + 3))

  unfoldable pub size : Judged
  size =
      cond (not (eqb s.n 0)) (refused 23 s.at)
      (cond bad_size (refused 25 s.at) (more (with_size s (u16_at file (s.at + 1)) (u32_at file (s.at + 3)))))

  unfoldable pub end : Judged
  end =
      cond (eqb s.n 0) (refused 23 s.at)
      (cond (eqb (length s.fragments) s.n && eqb (length s.events) s.n)
      (cond (eqb (s.at + 1) (length file)) (accepted s) (refused 26 (s.at + 1)))
      (refused 24 s.at))

  -- a whole record, by its kind
  unfoldable pub by_kind : Judged
  by_kind =
      let kind = get_or file s.at 0 in
      cond (eqb kind 1) size (cond (eqb kind 2) (fragment s) (cond (eqb kind 3) (event s) end))

  unfoldable pub record_of : Result ℕ Missing → Judged
  record_of (Err Cut) = refused (number (Err Cut)) s.at
  record_of (Err Unknown) = refused (number (Err Unknown)) s.at
  record_of (Ok k) = by_kind

-- the record at the scan's offset
unfoldable pub judge_record : List ℕ → Scan → Judged
judge_record file s = record_of file s (found file s.at)

-- ---- the file

-- so many records, or until a verdict
unfoldable pub judge_from : List ℕ → ℕ → Judged → Judged
judge_from file zero j = j
judge_from file (suc k) (refused number place) = refused number place
judge_from file (suc k) (accepted s) = accepted s
judge_from file (suc k) (more s) = judge_from file k (judge_record file s)

-- A record takes at least one byte, so this many are enough.
unfoldable pub judged : List ℕ → Judged
judged file = judge_from file (length file + 1) (more start)
