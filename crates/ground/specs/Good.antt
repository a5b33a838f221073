-- What holds of the machine between two steps of a run, wherever it began.
use Rattle.std.specs.Prelude.{◌≡◌, Bool, true, List, ℕ, ◌^◌, ◌≤◌, ◌<◌, T, ℤ, neg_ℤ, length}
use Rattle.std.specs.Int.{w64}
use Rattle.std.proofs.Common.{SFits}
use Rattle.lines.specs.First.{any}
use Rattle.lines.specs.Bounds.{Within}
use Rattle.steps.specs.Lent.{most_cost, allows}
use Rattle.steps.specs.Steps.{Machine, followed, lowered, raised, steps}
use Rattle.steps.specs.Counts.{over}
use Rattle.steps.specs.Going.{Going}
use Rattle.steps.specs.Bounds.{limit, Limited, Few}
use Rattle.ground.specs.Square.{Square, InWord, Grid, Flags, Fit64}

-- what steps 1 and 2 ask: every row has an allowed cell
pub record ForStart (n : ℕ) (costs : List ℤ) (mask : List ℕ) (working : List ℤ) (marks : List ℕ) (row_prices column_prices : List ℤ) : Type 0 where
  pub grid : Grid n mask working
  pub costs_square : Square n costs
  pub marks_square : Square n marks
  pub row_lines : length row_prices ≡ n
  pub column_lines : length column_prices ≡ n
  pub rows : (i : ℕ) → i < n → T (any (allows n mask i) n)

-- what an adjustment by z asks: z, its negative and all that is written fit 64 bits
pub record Adjusts (n : ℕ) (ok : ℕ → ℕ → Bool) (rows columns : ℕ) (z : ℤ) (working row_prices column_prices : List ℤ) : Type 0 where
  pub change : SFits w64 z
  pub back : SFits w64 (neg_ℤ z)
  pub values : Fit64 (followed n ok z rows columns working)
  pub lower : Fit64 (lowered z rows row_prices)
  pub higher : Fit64 (raised z columns column_prices)

-- ---- a run

-- what is the same at all its steps: mask and costs, and the bounds that its start sets
pub record Frame (n : ℕ) (mask : List ℕ) (cost : ℕ → ℕ → ℤ) : Type 0 where
  pub word : InWord n
  pub mask_square : Square n mask
  pub flags : Flags mask
  pub range : (i j : ℕ) → i < n → j < n → T (allows n mask i j) → Within most_cost (cost i j)
  -- by the prices that the run began with all values fit 64 bits
  pub row_bound : ℕ
  pub column_bound : ℕ
  pub fits : limit n most_cost row_bound column_bound < 2 ^ 63
  -- no count outgrows 32 bits
  pub most : ℕ
  pub counts : most < 2 ^ 32

-- what each step keeps
pub record Kept {n : ℕ} {mask : List ℕ} {cost : ℕ → ℕ → ℤ} (f : Frame n mask cost) (budget : ℕ) (m : Machine) : Type 0 where
  pub spare : m.run.adjustments ≤ budget
  pub going : Going n (allows n mask) cost m
  pub limited : Limited n most_cost f.row_bound f.column_bound m
  pub few : Few n (allows n mask) f.most m

-- both, of some costs
pub record Good (n : ℕ) (mask : List ℕ) (budget : ℕ) (m : Machine) : Type 0 where
  pub cost : ℕ → ℕ → ℤ
  pub frame : Frame n mask cost
  pub kept : Kept frame budget m

-- some number of steps leads from one machine to another, which is at an end
pub record Came (n : ℕ) (mask : List ℕ) (budget : ℕ) (before after : Machine) : Type 0 where
  pub count : ℕ
  pub exact : after ≡ steps n (allows n mask) budget count before
  pub ended : over after.run.next ≡ true
  pub good : Good n mask budget after
