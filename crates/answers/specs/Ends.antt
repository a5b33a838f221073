-- What is asked where the answer is given.
use Rattle.std.specs.Prelude.{◌≡◌, true, List, ℕ, ◌≤◌, ◌<◌, ℤ, pos, length}
use Rattle.lines.specs.Bounds.{Within}
use Rattle.lines.specs.Sets.{with, all}
use Rattle.steps.specs.declared.Answer.{Answer}
use Rattle.steps.specs.Lent.{most_cost, cost_at}
use Rattle.steps.specs.Refusal.{Verdict, refused, dead, accepted}
use Rattle.steps.specs.Outcome.{answer, no_run}
use Rattle.steps.specs.Steps.{Next, Paired, star_in_row}
use Rattle.steps.specs.Counts.{over}
use Rattle.ground.specs.Square.{Square, InWord}

-- a row that the judgement found lies in the square
abbrev pub Inside : ℕ → Verdict → Type 0
Inside n v = (row : ℕ) → v ≡ dead row → (row < n) × (n ≤ 64)

-- what is given back where the judgement stops the call; an accepted call is not stopped
unfoldable pub stop : ℕ → Verdict → Answer
stop n (refused number place) = answer number place (pos 0) no_run 0 0
stop n (dead row) = answer 6 0 (pos 0) no_run (with 0 row) (all n)
stop n accepted = answer 0 0 (pos 0) no_run 0 0

-- every row has a star, whose cost is in range
abbrev pub StarsInRange : ℕ → List ℤ → List ℕ → Type 0
StarsInRange n costs marks = (i : ℕ) → i < n → (star_in_row n marks i < n) × Within most_cost (cost_at n costs i (star_in_row n marks i))

pub record Chooses (n : ℕ) (costs : List ℤ) (marks columns : List ℕ) : Type 0 where
  pub most : n ≤ 64
  pub costs_square : Square n costs
  pub marks_square : Square n marks
  pub lines : length columns ≡ n
  pub stars : StarsInRange n costs marks

-- the run is at an end, and at a pairing every row's star has a cost in range
pub record Finishes (n : ℕ) (costs : List ℤ) (next : Next) (marks columns : List ℕ) : Type 0 where
  pub word : InWord n
  pub costs_square : Square n costs
  pub marks_square : Square n marks
  pub lines : length columns ≡ n
  pub ended : over next ≡ true
  pub stars : next ≡ Paired → StarsInRange n costs marks
