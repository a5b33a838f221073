-- The case reader's answers in C: the hut of a row as a number, the body of a record as a part of the file, and the huts beside a pairing.
use Rattle.std.specs.Prelude.{cond, List, ℕ, ◌+◌, eqb, Option, Some, None, Result, Ok, Err}
use Rattle.records.specs.declared.Missing.{Missing}
use Rattle.records.specs.Records.{number}
use Rattle.storm_case.specs.Case.{hut_of}
use Rattle.storm_case.specs.Said.{said}
use Rattle.case_face.specs.declared.Record.{Record}

-- a hut has 16 bits: 65,536 is none
unfoldable pub hut_number : Option ℕ → ℕ
hut_number (Some hut) = hut
hut_number None = 65_536

abbrev pub part_of_file : ℕ → ℕ → ℕ → Record
part_of_file number start n = record { number = number; start = start; length = n }

-- the number of what is found; the body is behind the kind byte at the offset
unfoldable pub record_at : ℕ → Result ℕ Missing → Record
record_at at (Ok n) = part_of_file (number (Ok n)) (at + 1) n
record_at at (Err missing) = part_of_file (number (Err missing)) 0 0

-- the hut of every row, as far as the room goes; at 20 the file was not looked at
unfoldable pub huts_beside : List ℕ → ℕ → List ℕ → List ℕ
huts_beside file number huts = cond (eqb number 20) huts (said hut_of file huts)
