-- What the program prints of a file: the lines of an answer that meets the promise of `pair_case`.
use Rattle.std.specs.Prelude.{◌≡◌, List, ℕ, replicate}
use Rattle.pairing.specs.declared.Pairs.{Pairs}
use Rattle.storm_case.specs.Case.{hut_of}
use Rattle.storm_case.specs.Said.{said}
use Rattle.pairing.specs.Pair.{Loan, fresh, PairPromise}
use Rattle.text.specs.Text.{put}
use Rattle.valley.specs.Lines.{lines}

-- the hut of every row, where the program has room for 64
abbrev pub huts : List ℕ → List ℕ
huts file = said hut_of file (replicate 64 0)

pub record Reported (file out : List ℕ) (r : ℕ) (after : List ℕ) : Type 0 where
  pub pairs : Pairs
  pub filled : Loan
  pub promise : PairPromise file fresh pairs filled
  pub printed : (r, after) ≡ put out 0 (lines (huts file) pairs filled.rest.columns)
