-- Files and what is found in them, computed: document 01's whole example, and the shortest file for each refusal.
use mathlib.Core.Path.{◌≡◌, refl}
use mathlib.Core.List.{List, [], ◌∷◌, ◌++◌}
use Prim.Native.Nat.{ℕ}
use lib.ListN.{replicate}
use Rattle.records.specs.Records.{known, body_length, found, part, body}
use Rattle.judgement.specs.Numbers.{u16_at, u32_at}
use Rattle.judgement.specs.Scan.{Scan, scan_with, refused, accepted, bad_size, size, line, end, by_kind, record_of, judge_record, judge_from, judged}

-- two rows, a window of 1,000 ms
abbrev pub two : List ℕ
two = 1 ∷ 2 ∷ 0 ∷ 232 ∷ 3 ∷ 0 ∷ 0 ∷ []

-- huts 7 and 9 in area 3, clocks 5,000 and 5,400; events in area 3, clocks 5,300 and 5,900
abbrev pub example : List ℕ
example =
    two ++ (2 ∷ 7 ∷ 0 ∷ 3 ∷ 0 ∷ 136 ∷ 19 ∷ 0 ∷ 0 ∷ 2 ∷ 9 ∷ 0 ∷ 3 ∷ 0 ∷ 24 ∷ 21 ∷ 0 ∷ 0 ∷ 3 ∷ 3 ∷ 0 ∷ 180 ∷ 20 ∷ 0 ∷ 0 ∷ 3 ∷ 3 ∷ 0 ∷ 12 ∷ 23 ∷ 0 ∷ 0 ∷ 4 ∷ [])

abbrev pub scanned : Scan
scanned = scan_with 39 2 1000 (7 ∷ 16 ∷ []) (25 ∷ 32 ∷ [])

pub example_accepted : judged example ≡ accepted scanned
unfolding judged judge_from judge_record record_of by_kind size line end bad_size found known body_length u16_at u32_at
example_accepted = refl

pub example_body : body example 25 ≡ (3 ∷ 0 ∷ 180 ∷ 20 ∷ 0 ∷ 0 ∷ [])
unfolding body part found known body_length
example_body = refl

-- one row, a window of 0 ms
abbrev pub one : List ℕ
one = 1 ∷ 1 ∷ 0 ∷ 0 ∷ 0 ∷ 0 ∷ 0 ∷ []

-- the shortest file of each refusal, as docs/CASE-FILE.md has them
pub shortest : (judged [] ≡ refused 21 0) × (judged (0 ∷ []) ≡ refused 22 0) × (judged (4 ∷ []) ≡ refused 23 0) × (judged (1 ∷ replicate 6 0) ≡ refused 25 0)
    × (judged (one ++ (4 ∷ [])) ≡ refused 24 7)
    × (judged (one ++ (2 ∷ replicate 8 0) ++ (3 ∷ replicate 6 0) ++ (4 ∷ 0 ∷ [])) ≡ refused 26 24)
unfolding judged judge_from judge_record record_of by_kind size line end bad_size found known body_length u16_at u32_at
shortest = (refl, refl, refl, refl, refl, refl)

-- a body cut, also of a second size; a size again, good or bad; sizes 0 and 65; too many of a kind; no end; a byte after the end
pub further : (judged (2 ∷ []) ≡ refused 21 0) × (judged (two ++ (1 ∷ [])) ≡ refused 21 7) × (judged (two ++ two) ≡ refused 23 7) × (judged (two ++ (1 ∷ replicate 6 0)) ≡ refused 23 7)
    × (judged (1 ∷ 65 ∷ replicate 5 0) ≡ refused 25 0) × (judged (1 ∷ 65 ∷ 0 ∷ replicate 4 255) ≡ refused 25 0)
    × (judged (one ++ (3 ∷ replicate 6 0) ++ (3 ∷ replicate 6 0)) ≡ refused 24 14) × (judged (one ++ (3 ∷ replicate 6 0)) ≡ refused 21 14)
    × (judged (example ++ (0 ∷ [])) ≡ refused 26 40)
unfolding judged judge_from judge_record record_of by_kind size line end bad_size found known body_length u16_at u32_at
further = (refl, refl, refl, refl, refl, refl, refl, refl, refl)
