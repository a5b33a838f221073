-- The longest accepted file, computed: 1,032 bytes; and that 1,040 bytes are the fewest that decide every file: at 1,039 they do not.
use mathlib.Core.Path.{◌≡◌, refl}
use mathlib.Core.List.{List, [], ◌∷◌, ◌++◌}
use Prim.Native.Nat.{ℕ, zero, suc}
use lib.ListN.{length, take, replicate}
use Rattle.records.specs.Records.{known, body_length, found}
use Rattle.judgement.specs.Numbers.{u16_at, u32_at}
use Rattle.judgement.specs.Scan.{Judged, more, refused, accepted}
use Rattle.judgement.specs.Scan.{bad_size, size, line, end, by_kind, record_of, judge_record, judge_from, judged}

-- a record so many times, then the rest
abbrev times : ℕ → List ℕ → List ℕ → List ℕ
times zero bytes rest = rest
times (suc n) bytes rest = bytes ++ times n bytes rest

-- 64 fragments and 64 events, all of area 0 at 0 ms, then what follows
abbrev longest : List ℕ → List ℕ
longest rest = (1 ∷ 64 ∷ replicate 5 0) ++ times 64 (2 ∷ replicate 8 0) (times 64 (3 ∷ replicate 6 0) rest)

abbrev pub number_of : Judged → ℕ
number_of (more s) = 1
number_of (refused k place) = k
number_of (accepted s) = 0

pub longest_accepted : (number_of (judged (longest (4 ∷ []))) ≡ 0) × (length (longest (4 ∷ [])) ≡ 1032)
unfolding judged judge_from judge_record record_of by_kind size line end bad_size found known body_length u16_at u32_at
longest_accepted = (refl, refl)

-- a fragment too many, and the same without its last byte
pub fewest : (judged (longest (2 ∷ replicate 8 0)) ≡ refused 24 1031) × (judged (take 1039 (longest (2 ∷ replicate 8 0))) ≡ refused 21 1031)
unfolding judged judge_from judge_record record_of by_kind size line end bad_size found known body_length u16_at u32_at
fewest = (refl, refl)
