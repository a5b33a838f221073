-- Theorem: there is one report of a file, closed with the law of the solver's answers. No crate stands above a program, so this one file names the steps' proofs.
use mathlib.Core.Path.{◌≡◌}
use mathlib.Core.Bool.{Bool}
use mathlib.Core.List.{List}
use Prim.Native.Nat.{ℕ}
use Rattle.steps.proofs.Theorems.{only_answer}
use Rattle.price_list.specs.Report.{Reported}
use Rattle.price_list.proofs.Printed as given

pub only_report : {short : Bool} {file out : List ℕ} {r r' : ℕ} {after after' : List ℕ}
    → Reported short file out r after → Reported short file out r' after' → (r ≡ r') × (after ≡ after')
only_report = given.only_report (λ t before a a' after after' x y. only_answer x y)
