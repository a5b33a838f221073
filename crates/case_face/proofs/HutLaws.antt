-- Laws of the huts: as a number, and beside a pairing, where at 20 the room is as it was, else it holds what the file says.
use mathlib.Core.Path.{◌≡◌}
use mathlib.Core.Logic.{◌≢◌}
use mathlib.Core.List.{List}
use Prim.Native.Nat.{ℕ}
use borrow.Author.Tests.{eq-eqb, ne_eqb}
use Rattle.storm_case.specs.Case.{hut_of}
use Rattle.storm_case.specs.Said.{said}
use Rattle.std.specs.Prelude.{Option, Some, None, MatchOption}
use Rattle.case_face.specs.Case.{hut_number, huts_beside}

module _ (file : List ℕ) (number : ℕ) (huts : List ℕ) where
  pub huts_kept : number ≡ 20 → huts ≡ huts_beside file number huts
  unfolding huts_beside
  huts_kept e = rw (eq-eqb number 20 e)

  pub huts_put : number ≢ 20 → {after : List ℕ} → after ≡ said hut_of file huts → after ≡ huts_beside file number huts
  unfolding huts_beside
  huts_put ne e = rw (ne_eqb number 20 ne) e

pub number_is : (h : Option ℕ) {r : ℕ} → MatchOption h (r ≡ 65_536) (λ hut. r ≡ hut) → r ≡ hut_number h
unfolding hut_number
number_is (Some hut) e = e
number_is None e = e
