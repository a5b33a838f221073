-- The first bytes of a file decide: cut at 1,040 bytes or more, so at 4,096, it is judged, read and answered as the whole file is.
use mathlib.Core.Path.{◌≡◌, refl, sym, subst, ◌∙◌}
use mathlib.Core.Bool.{Bool, cond}
use mathlib.Core.List.{List, [], ◌∷◌}
use Prim.Native.Nat.{ℕ, zero, suc, ◌+◌, ◌*◌, ◌≤◌, ◌<◌, min}
use native.Mathlib.Omega.{arith}
use lib.Dec.{eqb, eqb→eq}
use lib.IntN.{ℤ}
use lib.ListN.{length, take, length-append, length-take}
use lib.Seq.{take_all, get_or-take}
use Rattle.lines.proofs.Tests.{T_same, eqb_yes}
use Rattle.std.specs.Prelude.{Result, Ok, Err}
use Rattle.records.specs.declared.Missing.{Missing}
use Rattle.records.specs.declared.Missing.TheVariants.{Cut, Unknown}
use Rattle.records.specs.Records.{found}
use Rattle.records.proofs.Cuts.{cut_found}
use Rattle.judgement.specs.Numbers.{u16_at, u32_at}
use Rattle.judgement.specs.Scan as D
use Rattle.storm_case.specs.Case.{case, case_of, has_cells, read, hut_in, hut}
use Rattle.said.specs.Said.{said_in, said}
use Rattle.judgement.proofs.OneRecord.{Does, refuses, sizes, adds_row, adds_column, ends, record_does}
use Rattle.judgement.proofs.ScanLaws.{stays_refused, stays_accepted, never_more}

-- ---- one record

-- the end lies in front of the cut, or both files go on
same_end : (k l a : ℕ) → a < k → eqb a (min k l) ≡ eqb a l
same_end k l a h =
    T_same (eqb a (min k l)) (eqb a l) (λ t. eqb_yes a l (omega (arith, eqb→eq a (min k l) t)))
    (λ t. eqb_yes a (min k l) (omega (arith, eqb→eq a l t)))

module _ (k : ℕ) (file : List ℕ) (s : D.Scan) (h : s.at + 9 ≤ k) where
  cut_u16 : (p : ℕ) → p + 1 < k → u16_at (take k file) p ≡ u16_at file p
  unfolding u16_at
  cut_u16 p l = rw (get_or-take k file p 0 (omega arith), get_or-take k file (p + 1) 0 (omega arith))

  cut_u32 : (p : ℕ) → p + 3 < k → u32_at (take k file) p ≡ u32_at file p
  unfolding u32_at
  cut_u32 p l = rw (cut_u16 p (omega arith), cut_u16 (p + 2) (omega arith))

  cut_size : D.size (take k file) s ≡ D.size file s
  unfolding D.size D.bad_size
  cut_size = rw (cut_u16 (s.at + 1) (omega arith), cut_u32 (s.at + 3) (omega arith))

  cut_end : D.end (take k file) s ≡ D.end file s
  unfolding D.end
  cut_end = rw (length-take k file, same_end k (length file) (s.at + 1) (omega arith))

  cut_kind : D.by_kind (take k file) s ≡ D.by_kind file s
  unfolding D.by_kind
  cut_kind = rw (get_or-take k file s.at 0 (omega arith), cut_size, cut_end)

  cut_record : D.judge_record (take k file) s ≡ D.judge_record file s
  unfolding D.judge_record D.record_of
  cut_record = rw (cut_found k file s.at h) (go (found file s.at))
    where
      go : (f : Result ℕ Missing) → D.record_of (take k file) s f ≡ D.record_of file s f
      go (Ok n) = cut_kind
      go (Err Cut) = refl
      go (Err Unknown) = refl

-- ---- how far the scan comes

-- where the next record stands: a size takes 7 bytes, a fragment 9, an event 7
record Standing (s : D.Scan) : Type 0 where
  first : s.n ≡ 0 → s.at ≡ 0
  small : s.n ≤ 64
  few_rows : length s.fragments ≤ s.n
  few_columns : length s.events ≤ s.n
  pace : s.at ≤ 7 + 9 * length s.fragments + 7 * length s.events

-- after one record: an accepted file ends there, and a refusal lies no further on
abbrev Ahead : List ℕ → D.Judged → Type 0
Ahead file (D.more t) = Standing t
Ahead file (D.refused number place) = (21 ≤ number) × (number ≤ 26) × (place ≤ 1032)
Ahead file (D.accepted t) = Standing t × (length file ≡ t.at + 1)

next : {file : List ℕ} {s : D.Scan} {j : D.Judged} → Standing s → Does file s j → Ahead file j
next {s = s} h (refuses number place r) = (r.low, r.high, omega (arith, r.near, h.pace, h.few_rows, h.few_columns, h.small))
next {s = s} h (sizes r) = record {
  first = λ e. absurd (r.some e);
  small = r.small;
  few_rows = omega arith;
  few_columns = omega arith;
  pace = omega (arith, h.first r.first);
}
next {s = s} h (adds_row r) =
    let one = length-append s.fragments (s.at ∷ []) in
    record {
      first = λ e. absurd (r.some e);
      small = h.small;
      few_rows = omega (arith, one, h.few_rows, r.fewer);
      few_columns = h.few_columns;
      pace = omega (arith, one, h.pace);
    }
next {s = s} h (adds_column r) =
    let one = length-append s.events (s.at ∷ []) in
    record {
      first = λ e. absurd (r.some e);
      small = h.small;
      few_rows = h.few_rows;
      few_columns = omega (arith, one, h.few_columns, r.fewer);
      pace = omega (arith, one, h.pace);
    }
next h (ends r) = (h, sym r.last)

start_ahead : Standing D.start
start_ahead = record { first = λ e. refl; small = omega arith; few_rows = omega arith; few_columns = omega arith; pace = omega arith }

-- ---- record after record

ahead_from : (file : List ℕ) (m : ℕ) (j : D.Judged) → Ahead file j → Ahead file (D.judge_from file m j)
unfolding D.judge_from
ahead_from file zero j h = h
ahead_from file (suc m) (D.more s) h = ahead_from file m (D.judge_record file s) (next h (record_does file s))
ahead_from file (suc m) (D.refused number place) h = h
ahead_from file (suc m) (D.accepted s) h = h

judged_ahead : (file : List ℕ) → Ahead file (D.judged file)
unfolding D.judged
judged_ahead file = ahead_from file (length file + 1) (D.more D.start) start_ahead

-- an accepted file has at most 1,032 bytes
pub accepted_short : (file : List ℕ) {s : D.Scan} → D.judged file ≡ D.accepted s → length file ≤ 1032
accepted_short file {s} e =
    let h : Ahead file (D.accepted s) = subst (Ahead file) e (judged_ahead file) in
    omega (arith, h.1, h.0.pace, h.0.few_rows, h.0.few_columns, h.0.small)

-- a refusal has one of the numbers 21 to 26, and a place of at most 1,032
pub refused_early : (file : List ℕ) {number place : ℕ} → D.judged file ≡ D.refused number place → (21 ≤ number) × (number ≤ 26) × (place ≤ 1032)
refused_early file e = subst (Ahead file) e (judged_ahead file)

-- the same verdict from as many records
same_from : (k : ℕ) (file : List ℕ) → 1040 ≤ k → (m : ℕ) (j : D.Judged) → Ahead file j → D.judge_from (take k file) m j ≡ D.judge_from file m j
unfolding D.judge_from
same_from k file b zero j h = refl
same_from k file b (suc m) (D.more s) h =
    let near : s.at + 9 ≤ k = omega (arith, h.pace, h.few_rows, h.few_columns, h.small) in
    rw (cut_record k file s near) (same_from k file b m (D.judge_record file s) (next h (record_does file s)))
same_from k file b (suc m) (D.refused number place) h = refl
same_from k file b (suc m) (D.accepted s) h = refl

-- a verdict stays, however many more records are allowed
verdict_stays : (file : List ℕ) (m l : ℕ) (j : D.Judged) → m ≤ l
    → ((s : D.Scan) → D.judge_from file m j ≡ D.more s → ⊥) → D.judge_from file l j ≡ D.judge_from file m j
unfolding D.judge_from
verdict_stays file zero l (D.more s) h d = absurd (d s refl)
verdict_stays file zero l (D.refused number place) h d = stays_refused file l number place
verdict_stays file zero l (D.accepted s) h d = stays_accepted file l s
verdict_stays file (suc m) zero j h d = absurd (omega arith)
verdict_stays file (suc m) (suc l) (D.more s) h d = verdict_stays file m l (D.judge_record file s) (omega arith) d
verdict_stays file (suc m) (suc l) (D.refused number place) h d = refl
verdict_stays file (suc m) (suc l) (D.accepted s) h d = refl

-- ---- the theorems

-- 1,040 bytes decide
pub cut_judged : (k : ℕ) → 1040 ≤ k → (file : List ℕ) → D.judged (take k file) ≡ D.judged file
unfolding D.judged
cut_judged k b file =
    let start = D.more D.start in
    let fewer : length (take k file) + 1 ≤ length file + 1 = omega (arith, length-take k file) in
    sym (verdict_stays (take k file) (length (take k file) + 1) (length file + 1) start fewer (λ s e. never_more (take k file) e))
    ∙ same_from k file b (length file + 1) start start_ahead

module _ (k : ℕ) (b : 1040 ≤ k) (file : List ℕ) where
  -- an accepted file is not cut
  pub cut_nothing : {s : D.Scan} → D.judged file ≡ D.accepted s → take k file ≡ file
  cut_nothing e = take_all k file (omega (arith, accepted_short file e))

  pub cut_read : (costs : List ℤ) (mask : List ℕ) → read (take k file) costs mask ≡ read file costs mask
  unfolding read case_of
  cut_read costs mask = rw (cut_judged k b file) (go (D.judged file) refl)
    where
      room : Bool
      room = has_cells (length costs) (length mask)

      go : (j : D.Judged) → D.judged file ≡ j
          → cond room (case_of (take k file) costs mask j) (case 20 0 0 0, costs, mask)
          ≡ cond room (case_of file costs mask j) (case 20 0 0 0, costs, mask)
      go (D.more s) e = refl
      go (D.refused number place) e = refl
      go (D.accepted s) e = rw (cut_nothing e)

  pub cut_hut : (i : ℕ) → hut (take k file) i ≡ hut file i
  unfolding hut hut_in
  cut_hut i = rw (cut_judged k b file) (go (D.judged file) refl)
    where
      go : (j : D.Judged) → D.judged file ≡ j → hut_in (take k file) i j ≡ hut_in file i j
      go (D.more s) e = refl
      go (D.refused number place) e = refl
      go (D.accepted s) e = rw (cut_nothing e)

  pub cut_said : (f : List ℕ → D.Scan → ℕ → ℕ) (room : List ℕ) → said f (take k file) room ≡ said f file room
  unfolding said said_in
  cut_said f room = rw (cut_judged k b file) (go (D.judged file) refl)
    where
      go : (j : D.Judged) → D.judged file ≡ j → said_in (f (take k file)) room j ≡ said_in (f file) room j
      go (D.more s) e = refl
      go (D.refused number place) e = refl
      go (D.accepted s) e = rw (cut_nothing e)

-- what the program reads of its input is enough
pub first_bytes : (file : List ℕ) → D.judged (take 4096 file) ≡ D.judged file
first_bytes = cut_judged 4096 (omega arith)

pub same_scan : (file : List ℕ) (costs : List ℤ) (mask : List ℕ)
    → (read (take 4096 file) costs mask ≡ read file costs mask) × ((i : ℕ) → hut (take 4096 file) i ≡ hut file i)
same_scan file costs mask = (cut_read 4096 (omega arith) file costs mask, cut_hut 4096 (omega arith) file)
