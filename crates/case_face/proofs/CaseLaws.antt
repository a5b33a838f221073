-- What the C face answers of a case file: a record's part is its body and lies within the file; absent is no hut's number.
use mathlib.Core.Path.{◌≡◌, refl}
use mathlib.Core.Logic.{◌≢◌}
use mathlib.Core.List.{List}
use Prim.Native.Nat.{ℕ, ◌+◌, ◌≤◌, ◌<◌}
use native.Mathlib.Omega.{arith}
use lib.ListN.{length, take, drop}
use Rattle.std.specs.Prelude.{Some, None, Result, Ok, Err}
use Rattle.records.specs.declared.Missing.{Missing}
use Rattle.records.specs.Records.{found, part, body}
use Rattle.records.proofs.RecordLaws.{found_fits}
use Rattle.case_face.specs.declared.Record.{Record}
use Rattle.case_face.specs.Case.{hut_number, record_at}

-- a hut has 16 bits
pub absent_apart : (hut : ℕ) → hut < 65_536 → hut_number (Some hut) ≢ hut_number None
unfolding hut_number
absent_apart hut h e = omega arith

module _ (file : List ℕ) (at : ℕ) where
  abbrev pub record_there : Record
  record_there = record_at at (found file at)

  pub part_is_body : take record_there.length (drop record_there.start file) ≡ body file at
  unfolding record_at body part
  part_is_body = go (found file at)
    where
      go : (f : Result ℕ Missing) → take (record_at at f).length (drop (record_at at f).start file) ≡ part file at f
      go (Ok n) = refl
      go (Err missing) = refl

  pub part_inside : record_there.start + record_there.length ≤ length file
  unfolding record_at
  part_inside = go (found file at) refl
    where
      go : (f : Result ℕ Missing) → f ≡ found file at → (record_at at f).start + (record_at at f).length ≤ length file
      go (Ok n) e = found_fits file at e refl
      go (Err missing) e = omega arith
