-- What pairing a case gives back, stated about the file: which fragment goes with which event, at least summed clock difference.
use Rattle.std.specs.Prelude.{◌≡◌, ◌⊎◌, Bool, true, false, ◌&&◌, List, ℕ, ◌-◌, ◌*◌, ◌/◌, ℤ, pos, length, take, drop, replicate}
use Rattle.lines.specs.Square.{square}
use Rattle.lines.specs.Sets.{has}
use Rattle.assignment.specs.Problem.{AllowedPairing, NoneBelow, Impossible, Block, total}
use Rattle.steps.specs.declared.Answer.{Answer}
use Rattle.steps.specs.Lent.{Task, Buffers, task, buffers}
use Rattle.steps.specs.Refusal.{room}
use Rattle.steps.specs.Promise.{Promise}
use Rattle.pairing.specs.declared.Pairs.{Pairs}
use Rattle.storm_case.specs.Scan.{Scan, refused, accepted, judged}
use Rattle.storm_case.specs.Case.{clock_error, may_pair, pair_cost, mask_byte, filled, has_cells}

-- ---- what is lent

pub record Loan : Type 0 where
  pub costs : List ℤ
  pub mask : List ℕ
  pub rest : Buffers

abbrev pub loan : List ℤ → List ℕ → Buffers → Loan
loan costs mask rest = record { costs = costs; mask = mask; rest = rest }

-- exactly 4,096 places for each square and 64 for each line
abbrev pub enough_room : Loan → Bool
enough_room l = has_cells (length l.costs) (length l.mask) && room 4096 64 l.rest

-- all 0, as a program has them on its stack
abbrev pub fresh : Loan
fresh =
    loan (replicate 4096 (pos 0)) (replicate 4096 0)
    (buffers (replicate 4096 (pos 0)) (replicate 4096 0) (replicate 64 0) (replicate 64 (pos 0)) (replicate 64 (pos 0)))

-- the part of the buffers that n rows take, and what lies behind it
unfoldable pub front : ℕ → Buffers → Buffers
front n b = buffers (take (n * n) b.working) (take (n * n) b.marks) (take n b.columns) (take n b.row_prices) (take n b.column_prices)

unfoldable pub behind : ℕ → Buffers → Buffers
behind n b = buffers (drop (n * n) b.working) (drop (n * n) b.marks) (drop n b.columns) (drop n b.row_prices) (drop n b.column_prices)

-- ---- what is returned

abbrev pub unpaired : ℕ → ℕ → Pairs
unpaired number place =
    record { number = number; place = place; n = 0; window = 0; total = pos 0; block_rows = 0; block_columns = 0 }

abbrev pub paired : ℕ → ℕ → Answer → Pairs
paired n window a =
    record { number = a.number; place = a.place; n = n; window = window; total = a.total; block_rows = a.block_rows; block_columns = a.block_columns }

-- a budget that always suffices
unfoldable pub enough : ℕ → ℕ
enough n = n * (n - 1) / 2

-- the solver's promise on the front of the buffers, and nothing behind it touched
pub record SolvedBy (n : ℕ) (costs : List ℤ) (mask : List ℕ) (window : ℕ) (before : Buffers) (p : Pairs) (after : Buffers) : Type 0 where
  pub answer : Answer
  pub solver : Promise 64 (task n costs mask (enough n)) (front n before) answer (front n after)
  pub kept : behind n after ≡ behind n before
  pub given : p ≡ paired n window answer

-- ---- the promise

module _ (file : List ℕ) (s : Scan) where
  -- what the solver is asked of an accepted file
  abbrev pub asked : Task
  asked = task s.n (square (pair_cost file s) s.n) (square (mask_byte file s) s.n) (enough s.n)

  abbrev pub clock_cost : ℕ → ℕ → ℤ
  clock_cost i j = pos (clock_error file s i j)

  -- of an accepted file, with these columns for its rows: a pairing of fragments with events of equal area and clocks at most the window apart,
  -- of least summed clock difference among all such pairings; or none exists, and a block shows it; never unfinished
  pub record AboutFile (p : Pairs) (columns : List ℕ) : Type 0 where
    pub settled : (p.number ≡ 0) ⊎ (p.number ≡ 6)
    pub pairing : p.number ≡ 0 → AllowedPairing s.n s.n (may_pair file s) columns
    pub totalled : p.number ≡ 0 → p.total ≡ total clock_cost s.n columns
    pub least : p.number ≡ 0 → NoneBelow s.n s.n (may_pair file s) clock_cost p.total
    pub block : p.number ≡ 6 → Block s.n s.n (may_pair file s) (has p.block_rows) (has p.block_columns)
    pub impossible : p.number ≡ 6 → Impossible s.n s.n (may_pair file s)

  -- an accepted file: its cells are written, and solved
  pub record Solved (before : Loan) (p : Pairs) (after : Loan) : Type 0 where
    pub costs : after.costs ≡ filled s.n (pair_cost file s) before.costs
    pub mask : after.mask ≡ filled s.n (mask_byte file s) before.mask
    pub solved : SolvedBy s.n (square (pair_cost file s) s.n) (square (mask_byte file s) s.n) s.window before.rest p after.rest
    pub about : AboutFile p (front s.n after.rest).columns

-- of every file, whatever is lent
pub record PairPromise (file : List ℕ) (before : Loan) (p : Pairs) (after : Loan) : Type 0 where
  pub crowded : enough_room before ≡ false → (p ≡ unpaired 20 0) × (after ≡ before)
  pub unread : enough_room before ≡ true → (number place : ℕ) → judged file ≡ refused number place → (p ≡ unpaired number place) × (after ≡ before)
  pub solved : enough_room before ≡ true → (s : Scan) → judged file ≡ accepted s → Solved file s before p after
