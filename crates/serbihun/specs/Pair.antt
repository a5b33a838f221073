-- A case read and solved in C: the promise of `pair_case`, and the huts beside it.
use Rattle.std.specs.Prelude.{◌≡◌, List, ℕ}
use Rattle.pairing.specs.declared.Pairs.{Pairs}
use Rattle.pairing.specs.Pair.{Loan, PairPromise}
use Rattle.case_face.specs.Case.{huts_beside}

pub record PairedWithHuts (file : List ℕ) (before : Loan) (huts : List ℕ) (p : Pairs) (after : Loan) (huts_after : List ℕ) : Type 0 where
  pub promise : PairPromise file before p after
  pub huts_are : huts_after ≡ huts_beside file p.number huts
