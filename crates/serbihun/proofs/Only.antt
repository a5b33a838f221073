-- Theorems of the C face: two answers that meet a promise are equal, and so is every byte lent.
use mathlib.Core.Path.{◌≡◌, sym, ◌∙◌}
use mathlib.Core.List.{List}
use Prim.Native.Nat.{ℕ}
use lib.IntN.{ℤ}
use Rattle.steps.specs.declared.Answer.{Answer}
use Rattle.steps.specs.Lent.{task, Buffers}
use Rattle.steps.specs.Promise.{Promise}
use Rattle.steps.proofs.Theorems.{only_answer}
use Rattle.storm_case.specs.declared.Case.{Case}
use Rattle.records.specs.Records.{found}
use Rattle.storm_case.specs.Case.{read, hut}
use Rattle.storm_case.proofs.Only.{only_read}
use Rattle.cost_bytes.specs.Bytes.{decoded}
use Rattle.case_face.specs.declared.Record.{Record}
use Rattle.case_face.specs.Case.{hut_number, record_at}

-- the solver's answer, and every value, mark, column and price that was lent
pub only_solve : (n : ℕ) (costs mask : List ℕ) (budget : ℕ) {before : Buffers} {a a' : Answer} {after after' : Buffers}
    → Promise 64 (task n (decoded costs) mask budget) before a after → Promise 64 (task n (decoded costs) mask budget) before a' after' → (a ≡ a') × (after ≡ after')
only_solve n costs mask budget = only_answer

-- the reader's answer, and every cost and mask byte that was lent
pub only_read_case : (file : List ℕ) (costs : List ℤ) (mask : List ℕ) {r r' : Case} {c c' : List ℤ} {m m' : List ℕ}
    → (r, c, m) ≡ read file costs mask → (r', c', m') ≡ read file costs mask → ◌≡◌ {A = Case × List ℤ × List ℕ} (r, c, m) (r', c', m')
only_read_case = only_read

pub only_hut_number : (file : List ℕ) (row : ℕ) {r s : ℕ} → r ≡ hut_number (hut file row) → s ≡ hut_number (hut file row) → r ≡ s
only_hut_number file row e f = e ∙ sym f

pub only_record : (file : List ℕ) (at : ℕ) {r s : Record} → r ≡ record_at at (found file at) → s ≡ record_at at (found file at) → r ≡ s
only_record file at e f = e ∙ sym f
