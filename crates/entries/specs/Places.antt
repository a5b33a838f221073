-- Where a line's numbers stand: a row and an event of at most 64.
use Rattle.std.specs.Prelude.{ℕ, ◌≤◌, ◌<◌}

pub record InList (n row event : ℕ) : Type 0 where
  pub small : n ≤ 64
  pub row_below : row < n
  pub event_below : event < n
