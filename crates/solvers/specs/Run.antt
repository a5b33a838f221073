-- What the steps of an accepted call begin with.
use Rattle.std.specs.Prelude.{◌≡◌, List, ℕ, ℤ}
use Rattle.steps.specs.Lent.{most_cost, allows, cost_at}
use Rattle.steps.specs.Steps.{start}
use Rattle.steps.specs.Bounds.{limit}
use Rattle.ground.specs.Good.{ForStart, Frame, Kept}

pub record Begins (n : ℕ) (costs : List ℤ) (mask : List ℕ) (budget : ℕ) (working : List ℤ) (marks : List ℕ) (row_prices column_prices : List ℤ) : Type 0 where
  pub asks : ForStart n costs mask working marks row_prices column_prices
  pub frame : Frame n mask (cost_at n costs)
  -- the bounds are those of a fresh run
  pub fresh : limit n most_cost frame.row_bound frame.column_bound ≡ limit n most_cost most_cost 0
  pub kept : Kept frame budget (start n (allows n mask) (cost_at n costs))
