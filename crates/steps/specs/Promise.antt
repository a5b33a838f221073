-- What the solver promises of every call. Each field speaks of the returned record, the buffers at entry and exit, and the lent costs and mask.
use Rattle.std.specs.Prelude.{◌≡◌, ◌≢◌, ◌⊎◌, not, List, ℕ, ◌+◌, ◌-◌, ◌*◌, ◌/◌, ◌≤◌, ◌<◌, T, ℤ, pos, ◌+ℤ◌, get_or}
use Rattle.lines.specs.Sum.{sumℤ}
use Rattle.lines.specs.Square.{cell}
use Rattle.lines.specs.Sets.{has}
use Rattle.lines.specs.Bounds.{Within}
use Rattle.assignment.specs.Problem.{AllowedPairing, NoneBelow, Impossible, Block, total}
use Rattle.assignment.specs.Prices.{PriceList}
use Rattle.steps.specs.declared.Answer.{Answer}
use Rattle.steps.specs.Lent.{Task, Buffers, most_cost, allowed, cost}
use Rattle.steps.specs.Refusal.{accepted, room, Admitted, verdict}
use Rattle.steps.specs.Outcome.{Outcome}

-- what the rules let pass
abbrev pub Fit : ℕ → Task → Buffers → Type 0
Fit limit t before = Admitted limit t.n t.costs t.mask (room (t.n * t.n) t.n before)

abbrev pub row_price_at : Buffers → ℕ → ℤ
row_price_at b i = get_or b.row_prices i (pos 0)

abbrev pub column_price_at : Buffers → ℕ → ℤ
column_price_at b j = get_or b.column_prices j (pos 0)

abbrev pub working_at : ℕ → Buffers → ℕ → ℕ → ℤ
working_at n b i j = cell (pos 0) n b.working i j

-- what the rules let pass is answered 0, 6 or 7; 0 and 7 come only where the steps ran
pub record Settled (limit : ℕ) (t : Task) (before : Buffers) (a : Answer) : Type 0 where
  pub passed : Fit limit t before → (a.number ≡ 0) ⊎ (a.number ≡ 6) ⊎ (a.number ≡ 7)
  pub ran : (a.number ≡ 0) ⊎ (a.number ≡ 7) → verdict t limit before ≡ accepted

-- no price and no working value is more than L away from 0
pub record InLimits (n L : ℕ) (row_prices column_prices working : List ℤ) : Type 0 where
  pub rows : (i : ℕ) → i < n → Within L (get_or row_prices i (pos 0))
  pub columns : (j : ℕ) → j < n → Within L (get_or column_prices j (pos 0))
  pub cells : (q : ℕ) → q < n * n → Within L (get_or working q (pos 0))

-- the bound for n rows: below 2^39 at n = 64, below 2^42 at n = 256
abbrev pub largest : ℕ → ℕ
largest n = 2 * most_cost + 4 * most_cost * n

pub record Promise (limit : ℕ) (t : Task) (before : Buffers) (a : Answer) (after : Buffers) : Type 0 where
  -- for every input the answer and every buffer are the definition's
  pub exact : Outcome limit t before a after
  -- 0: an allowed pairing with its total, and none has a smaller one
  pub pairing : a.number ≡ 0 → AllowedPairing t.n t.n (allowed t) after.columns
  pub totalled : a.number ≡ 0 → a.total ≡ total (cost t) t.n after.columns
  pub least : a.number ≡ 0 → NoneBelow t.n t.n (allowed t) (cost t) a.total
  -- 6: a block, so no allowed pairing exists
  pub block : a.number ≡ 6 → Block t.n t.n (allowed t) (has a.block_rows) (has a.block_columns)
  pub impossible : a.number ≡ 6 → Impossible t.n t.n (allowed t)
  pub settled : Settled limit t before a
  -- where a pairing exists, 0 or 7; where none exists, 6 or 7
  pub complete : Fit limit t before
      → ((q : List ℕ) → AllowedPairing t.n t.n (allowed t) q → (a.number ≡ 0) ⊎ (a.number ≡ 7))
      × (Impossible t.n t.n (allowed t) → (a.number ≡ 6) ⊎ (a.number ≡ 7))
  -- the ceilings of the counts
  pub ceilings : (a.adjustments ≤ t.n * (t.n - 1) / 2) × (a.primes ≤ t.n * (t.n + 1) / 2 - 1) × (a.augmentations ≤ t.n - 1)
  -- 7: the budget is spent, and it was less than the ceiling
  pub unfinished : a.number ≡ 7 → (a.adjustments ≡ t.budget) × (t.budget < t.n * (t.n - 1) / 2)
  pub enough : t.n * (t.n - 1) / 2 ≤ t.budget → a.number ≢ 7
  -- whenever the steps ran: cost = row price + column price + working, and a forbidden cell's working value is 0
  pub prices : verdict t limit before ≡ accepted
      → PriceList t.n (allowed t) (cost t) (row_price_at after) (column_price_at after) (working_at t.n after)
      × ((i j : ℕ) → i < t.n → j < t.n → T (not (allowed t i j)) → working_at t.n after i j ≡ pos 0)
  pub adds_up : a.number ≡ 0 → a.total ≡ sumℤ (row_price_at after) t.n +ℤ sumℤ (column_price_at after) t.n
  pub limits : verdict t limit before ≡ accepted → InLimits t.n (largest t.n) after.row_prices after.column_prices after.working
