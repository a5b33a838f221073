-- What is printed of a file, computed from its bytes: the file is judged, its cells are solved by the definition of the steps, and the answer is written in lines.
use Rattle.std.specs.Prelude.{List, [], ℕ}
use Rattle.std.proofs.Math.Option.{Option, none, some, map}
use Rattle.steps.specs.declared.Answer.{Answer}
use Rattle.steps.specs.Lent.{Task, Buffers}
use Rattle.steps.specs.Refusal.{verdict}
use Rattle.steps.specs.Outcome as solver
use Rattle.storm_case.specs.Scan.{Judged, more, refused, accepted, judged}
use Rattle.pairing.specs.Pair.{fresh, front, unpaired, paired, asked}
use Rattle.valley.specs.Lines.{lines}
use Rattle.valley.specs.Report.{huts}

-- what the definition of the steps gives back; none where 99 steps do not come to an end
unfoldable pub solved : Task → Buffers → Option (Answer × Buffers)
solved t before = solver.judged t before 99 (verdict t 64 before)

unfoldable pub printed_of : List ℕ → Judged → Option (List ℕ)
printed_of file (accepted s) =
    map (λ (o : Answer × Buffers). lines (huts file) (paired s.n s.window o.0) o.1.columns) (solved (asked file s) (front s.n fresh.rest))
printed_of file (refused number place) = some (lines (huts file) (unpaired number place) [])
-- a judged file is never here
printed_of file (more s) = none

unfoldable pub printed : List ℕ → Option (List ℕ)
printed file = printed_of file (judged file)
