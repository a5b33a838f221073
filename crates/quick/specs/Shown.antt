-- The machine that the code's state shows, and what holds between the two.
use Rattle.std.specs.Prelude.{◌≡◌, Bool, List, ℕ, ◌≤◌, ◌<◌, ℤ, pos, ◌-ℤ◌, length, get_or}
use Rattle.lines.specs.Square.{square}
use Rattle.lines.specs.Bounds.{Within}
use Rattle.steps.specs.Lent.{most_cost, allows, cost_at}
use Rattle.steps.specs.Steps.{Machine, machine, star_in_row, star_in_column, prime_in_row}
use Rattle.ground.specs.View.{view}
use Rattle.ground.specs.Good.{Frame, Kept, Came}
use Rattle.keyed.specs.Keys.{limit, entry}
use Rattle.keyed.specs.Best.{Keys, Best}
use Rattle.steps.specs.Steps as S
use Rattle.steps.specs.Bounds as Bounds
use Rattle.quick_steps.specs.declared.State.{State}
use Rattle.starred.specs.declared.stars.Stars.{Stars}
use Rattle.keyed.specs.declared.opening.Opened.{Opened}
use Rattle.keyed.specs.Opening.{Known}
use Rattle.starred.specs.Columns.{starred}
use Rattle.starred.specs.Written.{working_of, marks_of}

-- the code's lines are what the searches find in the marks
pub record Lines (n : ℕ) (marks star owner prime : List ℕ) : Type 0 where
  pub star_long : n ≤ length star
  pub owner_long : n ≤ length owner
  pub prime_long : n ≤ length prime
  pub star_is : (i : ℕ) → i < n → get_or star i 0 ≡ star_in_row n marks i
  pub owner_is : (j : ℕ) → j < n → get_or owner j 0 ≡ star_in_column n marks j
  pub prime_is : (i : ℕ) → i < n → get_or prime i 0 ≡ prime_in_row n marks i

-- how far prices and working values may be from 0, that keys hold them
abbrev pub most_value : ℕ
most_value = 274_877_906_944

-- in a phase: the keys, the least of them, and a column without a star, whose price has risen by just that
pub record During (n : ℕ) (ok : ℕ → ℕ → Bool) (m : Machine) (risen best : ℤ) (key : List ℤ) : Type 0 where
  pub rise : ℕ
  pub risen_is : risen ≡ pos rise
  pub keys : Keys 64 n ok limit m.working m.run.rows m.run.columns risen (λ i. get_or key i (pos 0))
  pub least : Best 64 n ok limit m.working m.run.rows m.run.columns risen best
  pub free : ℕ
  pub free_below : free < n
  pub bare : n ≤ star_in_column n m.marks free
  pub from : Within most_value (get_or m.column_prices free (pos 0) -ℤ risen)

-- by what is next
abbrev pub Searching : S.Next → (n : ℕ) → (ℕ → ℕ → Bool) → Machine → ℤ → ℤ → List ℤ → Type 0
Searching S.Step3 n ok m risen best key = Unit
Searching S.Step4 n ok m risen best key = During n ok m risen best key
Searching (S.Step5 i j) n ok m risen best key = Unit
Searching S.Step6 n ok m risen best key = During n ok m risen best key
Searching S.Paired n ok m risen best key = Unit
Searching S.NoPairing n ok m risen best key = Unit
Searching S.Unfinished n ok m risen best key = Unit

-- a run whose values keys hold
abbrev pub Holds : {n : ℕ} {mask : List ℕ} {cost : ℕ → ℕ → ℤ} → Frame n mask cost → Type 0
Holds {n} f = Bounds.limit n most_cost f.row_bound f.column_bound ≤ most_value

-- a run whose keys stand in a table
pub record Tabled (n : ℕ) (costs : List ℤ) (mask : List ℕ) (budget : ℕ) (m : Machine) (keys : List ℤ) : Type 0 where
  pub frame : Frame n mask (cost_at n costs)
  pub holds : Holds frame
  pub kept : Kept frame budget m
  pub table : keys ≡ square (entry 64 (allows n mask) (cost_at n costs)) n

-- the machine m is what the code's state shows
pub record Held (n : ℕ) (costs : List ℤ) (mask : List ℕ) (budget : ℕ) (m : Machine) (risen best : ℤ) (keys : List ℤ) (star owner prime cheapest : List ℕ) (key : List ℤ) : Type 0 where
  pub tabled : Tabled n costs mask budget m keys
  pub lines : Lines n m.marks star owner prime
  pub known : Known n (starred n owner) keys m.row_prices m.column_prices cheapest
  pub searching : Searching m.run.next n (allows n mask) m risen best key

-- the state itself as a machine
abbrev pub shown : ℕ → List ℤ → List ℕ → S.Run → List ℤ → List ℤ → List ℕ → List ℕ → Machine
shown n costs mask run row_prices column_prices star prime =
    machine run (working_of n costs mask row_prices column_prices) (marks_of n star prime) row_prices column_prices

-- the same of the code's state: the machine that it shows, and that it holds that machine
abbrev pub shown_by : ℕ → List ℤ → List ℕ → State → List ℤ → List ℤ → Stars → Machine
shown_by n costs mask s row_prices column_prices stars = shown n costs mask (view s.run) row_prices column_prices stars.star stars.prime

abbrev pub HeldBy : ℕ → List ℤ → List ℕ → ℕ → State → List ℤ → List ℤ → List ℤ → Stars → Opened → Type 0
HeldBy n costs mask budget s keys row_prices column_prices stars opened =
    Held n costs mask budget (shown_by n costs mask s row_prices column_prices stars) s.risen s.best keys stars.star stars.owner stars.prime opened.cheapest opened.key

-- after one step of the code from the machine m: its state shows the machine's next, and holds it
pub record Turned (n : ℕ) (costs : List ℤ) (mask : List ℕ) (budget : ℕ) (m : Machine) (s : State) (keys row_prices column_prices : List ℤ) (stars : Stars) (opened : Opened) : Type 0 where
  pub made : shown_by n costs mask s row_prices column_prices stars ≡ S.step n (allows n mask) budget m
  pub held : HeldBy n costs mask budget s keys row_prices column_prices stars opened

-- some number of steps leads from the machine m to the one that the state shows and holds, which is at an end
pub record Reached (n : ℕ) (costs : List ℤ) (mask : List ℕ) (budget : ℕ) (m : Machine) (s : State) (keys row_prices column_prices : List ℤ) (stars : Stars) (opened : Opened) : Type 0 where
  pub came : Came n mask budget m (shown_by n costs mask s row_prices column_prices stars)
  pub held : HeldBy n costs mask budget s keys row_prices column_prices stars opened
