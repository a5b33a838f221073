-- Theorem: two answers of `pairing::pair_case` that meet its promise are equal, closed here with the law of the solver's answers.
use mathlib.Core.Path.{◌≡◌, sym, ap, ◌∙◌}
use mathlib.Core.List.{List}
use Prim.Native.Nat.{ℕ}
use Rattle.steps.proofs.Theorems.{only_answer}
use Rattle.pairing.specs.declared.Pairs.{Pairs}
use Rattle.pairing.specs.Pair.{Loan, PairPromise}
use Rattle.case_face.specs.Case.{huts_beside}
use Rattle.serbihun.specs.Pair.{PairedWithHuts}
use Rattle.pairing.proofs.OnlyPairs as given

pub only_pairs : (file : List ℕ) (before : Loan) {p p' : Pairs} {after after' : Loan}
    → PairPromise file before p after → PairPromise file before p' after' → (p ≡ p') × (after ≡ after')
only_pairs = given.only_pairs (λ t before a a' after after' x y. only_answer x y)

-- and so are the huts beside it
pub only_pair_case : (file : List ℕ) (before : Loan) (huts : List ℕ) {p p' : Pairs} {after after' : Loan} {h h' : List ℕ}
    → PairedWithHuts file before huts p after h → PairedWithHuts file before huts p' after' h' → (p ≡ p') × (after ≡ after') × (h ≡ h')
only_pair_case file before huts x y =
    let same = only_pairs file before x.promise y.promise in
    (same.0, same.1, x.huts_are ∙ ap (λ p. huts_beside file p.number huts) same.0 ∙ sym y.huts_are)
