-- The ways that the code goes in steps 3 to 6, each by what it tests and what it leaves.
use Rattle.std.specs.Prelude.{◌≡◌, ◌≢◌, true, false, List, ℕ, ◌≤◌, ◌<◌, ltb, ℤ, pos, ◌-ℤ◌, get_or, set}
use Rattle.std.specs.Int.Signed.{lt_z}
use Rattle.lines.specs.Count.{count}
use Rattle.lines.specs.Sets.{with}
use Rattle.steps.specs.Steps.{run_with, to, covering, reaching, adjusting, lowered, raised}
use Rattle.ground.specs.View.{view}
use Rattle.ground.specs.declared.run.Run.{Run}
use Rattle.std.specs.Int.{int_min}
use Rattle.keyed.specs.Keys.{limit, value_of, column_of, row_of, names_zero, lowered_key, least_key}
use Rattle.steps.specs.Steps as S
use Rattle.quick_steps.specs.declared.State.{State}
use Rattle.keyed.specs.Opening.{term_at, Opens, Known}
use Rattle.starred.specs.Columns.{starred}

-- the state with something else next
pub record Goes (x : S.Next) (s r : State) : Type 0 where
  pub run : view r.run ≡ to x (view s.run)
  pub risen : r.risen ≡ s.risen
  pub best : r.best ≡ s.best

-- ---- step 3: with n stars all is paired; else the columns without a star open, at their prices

module _ (n : ℕ) (s : State) (keys row_prices column_prices : List ℤ) (star owner cheapest : List ℕ) where
  abbrev pub crossed : S.Next → S.Run
  crossed x = let r = view s.run in run_with r.rows (starred n owner) r.adjustments r.primes r.augmentations x

  pub data Crossed (r : State) (cheapest' : List ℕ) (key' : List ℤ) : Type 0 where
    full : count (λ i. ltb (get_or star i 0) n) n ≡ n → view r.run ≡ crossed S.Paired → cheapest' ≡ cheapest → Crossed r cheapest' key'
    part : count (λ i. ltb (get_or star i 0) n) n ≢ n → view r.run ≡ crossed S.Step4 → r.risen ≡ pos 0
        → Opens n 0 (starred n owner) keys row_prices column_prices key' r.best → Known n (starred n owner) keys row_prices column_prices cheapest' → Crossed r cheapest' key'

-- a run taken up in the midst of a phase: nothing has risen, and what is not covered is open
pub record TakenUp (n : ℕ) (run : Run) (keys row_prices column_prices : List ℤ) (r : State) (key : List ℤ) : Type 0 where
  pub same : view r.run ≡ view run
  pub risen : r.risen ≡ pos 0
  pub opens : Opens n run.rows run.columns keys row_prices column_prices key r.best

-- ---- step 4

module _ (n : ℕ) (s : State) (keys row_prices column_prices : List ℤ) (star prime : List ℕ) (key : List ℤ) where
  -- the place that the least key names, the column of that row's star, and what each row has there
  abbrev pub at_row : ℕ
  at_row = row_of 64 s.best

  abbrev pub at_column : ℕ
  at_column = column_of 64 s.best

  abbrev pub at_star : ℕ
  at_star = get_or star at_row 0

  abbrev pub at_term : ℕ → ℤ
  at_term = term_at n keys row_prices at_star (get_or column_prices at_star (pos 0) -ℤ s.risen)

  pub data Primed (r : State) (prime' : List ℕ) (key' : List ℤ) : Type 0 where
    -- no zero
    passes : names_zero 64 s.best s.risen ≡ false → Goes S.Step6 s r → prime' ≡ prime → key' ≡ key → Primed r prime' key'
    -- a zero in a row without a star
    reaches : names_zero 64 s.best s.risen ≡ true → n ≤ at_star → view r.run ≡ reaching at_row at_column (view s.run)
        → prime' ≡ set prime at_row at_column → key' ≡ key → Primed r prime' key'
    -- a zero in a row with one
    covers : names_zero 64 s.best s.risen ≡ true → at_star < n → view r.run ≡ covering at_row at_star (view s.run) → r.risen ≡ s.risen
        → r.best ≡ least_key (with s.run.rows at_row) (λ i. int_min (get_or key i (pos 0)) (at_term i)) n
        → prime' ≡ set prime at_row at_column
        → ((i : ℕ) → i < n → get_or key' i (pos 0) ≡ lowered_key (with s.run.rows at_row) at_term i (get_or key i (pos 0))) → Primed r prime' key'

-- ---- step 6

-- what is left of the least value
abbrev pub change : State → ℤ
change s = value_of 64 s.best -ℤ s.risen

module _ (budget : ℕ) (s : State) (row_prices column_prices : List ℤ) where
  pub data Adjusted (r : State) (row_prices' column_prices' : List ℤ) : Type 0 where
    blocked : lt_z s.best limit ≡ false → Goes S.NoPairing s r → row_prices' ≡ row_prices → column_prices' ≡ column_prices → Adjusted r row_prices' column_prices'
    spent : lt_z s.best limit ≡ true → s.run.adjustments ≡ budget → Goes S.Unfinished s r → row_prices' ≡ row_prices → column_prices' ≡ column_prices
        → Adjusted r row_prices' column_prices'
    adjusts : lt_z s.best limit ≡ true → s.run.adjustments ≢ budget → view r.run ≡ adjusting (view s.run)
        → r.risen ≡ value_of 64 s.best → r.best ≡ s.best
        → row_prices' ≡ lowered (change s) s.run.rows row_prices → column_prices' ≡ raised (change s) s.run.columns column_prices → Adjusted r row_prices' column_prices'
