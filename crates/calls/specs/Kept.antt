-- What is promised of a stored call that a solver keeps.
use Rattle.std.specs.Prelude.{◌≡◌, true, List, ℕ, ◌≤◌, ℤ, pos, length, get_or, take, replicate}
use Rattle.steps.specs.declared.Answer.{Answer}
use Rattle.steps.specs.Lent.{Buffers, task, buffers}
use Rattle.steps.specs.Promise.{Promise}
use Rattle.calls.specs.declared.Lengths.{Lengths}
use Rattle.calls.specs.declared.Before.{Before}
use Rattle.calls.specs.declared.Call.{Call}
use Rattle.calls.specs.Numbers.{Says, SaysAnswer}

-- no list is longer than its room
pub record Fits (l : Lengths) : Type 0 where
  pub costs : l.costs ≤ 4225
  pub mask : l.mask ≤ 4225
  pub working : l.working ≤ 4225
  pub marks : l.marks ≤ 4225
  pub columns : l.columns ≤ 65
  pub row_prices : l.row_prices ≤ 65
  pub column_prices : l.column_prices ≤ 65

-- the buffers before the call
abbrev pub filled : Lengths → Before → Buffers
filled l b =
    buffers (take l.working (replicate 4225 b.working)) (take l.marks (replicate 4225 b.mark)) (take l.columns (replicate 65 b.column))
    (take l.row_prices (replicate 65 b.price)) (take l.column_prices (replicate 65 b.price))

-- a solver was lent the costs and the mask that are said, and gave back and left what is said
pub record Kept (c : Call) (said : List ℤ) : Type 0 where
  pub costs : List ℤ
  pub mask : List ℕ
  pub answer : Answer
  pub after : Buffers
  pub solver : Promise 64 (task c.n costs mask c.budget) (filled c.lengths c.before) answer after
  pub costs_long : length costs ≡ c.lengths.costs
  pub mask_long : length mask ≡ c.lengths.mask
  pub says_costs : Says said 0 c.lengths.costs (λ i. get_or costs i (pos 0))
  pub says_mask : Says said 4225 c.lengths.mask (λ i. pos (get_or mask i 0))
  pub says_answer : SaysAnswer said answer
  pub says_working : Says said 8450 c.lengths.working (λ i. get_or after.working i (pos 0))
  pub says_marks : c.marks_said ≡ true → Says said 12_675 c.lengths.marks (λ i. pos (get_or after.marks i 0))
  pub says_columns : Says said 16_900 c.lengths.columns (λ i. pos (get_or after.columns i 0))
  pub says_row_prices : Says said 16_965 c.lengths.row_prices (λ i. get_or after.row_prices i (pos 0))
  pub says_column_prices : Says said 17_030 c.lengths.column_prices (λ i. get_or after.column_prices i (pos 0))
