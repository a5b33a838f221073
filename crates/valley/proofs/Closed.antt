-- There is one report of a file, and what the definitions compute is printed: closed with the laws of the solver's answers.
-- No crate stands above a program, so this one file names the steps' proofs.
use mathlib.Core.Path.{◌≡◌, subst}
use mathlib.Core.List.{List}
use mathlib.Core.Option.{some}
use Prim.Native.Nat.{ℕ, ◌≤◌}
use lib.ListN.{length, take}
use Rattle.steps.proofs.Promised.{promised}
use Rattle.steps.proofs.Theorems.{only_answer}
use Rattle.storm_case.specs.Numbers.{AreBytes}
use Rattle.judgement.proofs.Samples.{example}
use Rattle.storm_case.proofs.FormatBytes.{case_are_bytes}
use Rattle.storm_case.proofs.FormatLaws.{example_written}
use Rattle.valley.specs.Report.{Reported}
use Rattle.valley.specs.Computed.{printed}
use Rattle.valley.proofs.Computed as computing
use Rattle.valley.proofs.Samples.{example_text, example_printed}
use Rattle.valley.proofs.Theorems as given

pub only_report : {file out : List ℕ} {r r' : ℕ} {after after' : List ℕ}
    → Reported file out r after → Reported file out r' after' → (r ≡ r') × (after ≡ after')
only_report = given.only_report (λ t before a a' after after' x y. only_answer x y)

pub computed_text : (file : List ℕ) → AreBytes file → {text : List ℕ} → printed file ≡ some text
    → {out : List ℕ} {r : ℕ} {after : List ℕ} → Reported file out r after → 1024 ≤ length out → take r after ≡ text
computed_text = computing.computed_text (λ t before a a' after after' x y. only_answer x y) (λ t before a after o. promised o)

-- document 01's whole example: the program prints this of these 40 bytes
pub example_reported : {out : List ℕ} {r : ℕ} {after : List ℕ} → Reported example out r after → 1024 ≤ length out → take r after ≡ example_text
example_reported = computed_text example (subst AreBytes example_written (case_are_bytes _ _ _)) example_printed
