-- What a call gives back: the answer record, and what every lent buffer then holds, for every input whatever.
use Rattle.std.specs.Prelude.{◌≡◌, List, ℕ, ℤ, pos}
use Rattle.std.proofs.Math.Option.{Option, some, map}
use Rattle.lines.specs.Square.{table}
use Rattle.lines.specs.Sets.{all, rest, with}
use Rattle.assignment.specs.Problem.{total}
use Rattle.steps.specs.declared.Answer.{Answer}
use Rattle.steps.specs.Lent.{Task, Buffers, buffers, allowed, cost}
use Rattle.steps.specs.Refusal.{Verdict, refused, dead, accepted, verdict}
use Rattle.steps.specs.Steps.{Step3, End, paired, no_pairing, unfinished, end_of, Run, run_with, Machine, star_in_row, start, steps}

-- ---- the answer, with its number and values, for each case

abbrev pub answer : ℕ → ℕ → ℤ → Run → ℕ → ℕ → Answer
answer number place sum r rows columns = record {
  number = number;
  place = place;
  total = sum;
  adjustments = r.adjustments;
  primes = r.primes;
  augmentations = r.augmentations;
  block_rows = rows;
  block_columns = columns;
}

abbrev pub no_run : Run
no_run = run_with 0 0 0 0 0 Step3

-- What an end gives back: the answer, and the columns. Only a pairing writes these: the star of each row.
module _ (n : ℕ) (cost : ℕ → ℕ → ℤ) (r : Run) (marks before : List ℕ) where
  unfoldable pub given : End → Answer × List ℕ
  given paired = let columns = table (star_in_row n marks) n in (answer 0 0 (total cost n columns) r 0 0, columns)
  given no_pairing = (answer 6 0 (pos 0) r (rest n r.rows) (rest n r.columns), before)
  given unfinished = (answer 7 0 (pos 0) r 0 0, before)

-- the buffers as the steps leave them, with these columns
unfoldable pub written : Machine → List ℕ → Buffers
written m columns = buffers m.working m.marks columns m.row_prices m.column_prices

-- the machine after k steps from the start
abbrev pub reached : Task → ℕ → Machine
reached t k = steps t.n (allowed t) t.budget k (start t.n (allowed t) (cost t))

module _ (t : Task) (before : Buffers) where
  -- what is returned of a machine at an end
  unfoldable pub returned : Machine → End → Answer × Buffers
  returned m e = let o = given t.n (cost t) m.run m.marks before.columns e in (o.0, written m o.1)

  -- what is returned by the verdict, after k steps; before an end nothing yet
  unfoldable pub judged : ℕ → Verdict → Option (Answer × Buffers)
  judged k (refused number place) = some (answer number place (pos 0) no_run 0 0, before)
  judged k (dead row) = some (answer 6 0 (pos 0) no_run (with 0 row) (all t.n), before)
  judged k accepted = let m = reached t k in map (returned m) (end_of m.run.next)

-- The outcome of a call: after some number of steps this answer is returned, with these buffers. `limit` is the largest n.
pub record Outcome (limit : ℕ) (t : Task) (before : Buffers) (a : Answer) (after : Buffers) : Type 0 where
  pub count : ℕ
  pub exact : judged t before count (verdict t limit before) ≡ some (a, after)
