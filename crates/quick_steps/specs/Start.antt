-- What a run begins with, after steps 1 and 2.
use Rattle.std.specs.Prelude.{◌≡◌, List, ℕ, ◌≤◌, ◌<◌, ℤ, pos, length, get_or}
use Rattle.lines.specs.Square.{square, table as table_of}
use Rattle.steps.specs.Lent.{allows, cost_at}
use Rattle.steps.specs.Steps.{star_in_row, star_in_column, row_price}
use Rattle.steps.specs.Outcome.{no_run}
use Rattle.ground.specs.View.{view}
use Rattle.keyed.specs.Keys.{entry}
use Rattle.starred.specs.Written.{first_marks}
use Rattle.quick_steps.specs.declared.State.{State}

pub record Started (n : ℕ) (costs : List ℤ) (mask : List ℕ) (s : State) (keys row_prices column_prices : List ℤ) (star owner prime cheapest : List ℕ) : Type 0 where
  pub begun : view s.run ≡ no_run
  pub table : keys ≡ square (entry 64 (allows n mask) (cost_at n costs)) n
  pub row_prices_are : row_prices ≡ table_of (row_price n (allows n mask) (cost_at n costs)) n
  pub column_prices_are : column_prices ≡ table_of (λ j. pos 0) n
  pub star_long : n ≤ length star
  pub owner_long : n ≤ length owner
  pub prime_long : n ≤ length prime
  pub star_is : (i : ℕ) → i < n → get_or star i 0 ≡ star_in_row n (first_marks n costs mask) i
  pub owner_is : (j : ℕ) → j < n → get_or owner j 0 ≡ star_in_column n (first_marks n costs mask) j
  pub no_prime : (i : ℕ) → i < n → get_or prime i 0 ≡ n
  pub cheapest_long : n ≤ length cheapest
  pub none_known : (i : ℕ) → i < n → get_or cheapest i 0 ≡ n
