-- `ByKeys::run` meets the trait's contract: the keys hold the run's values, and it comes to the end that its last state shows.
use mathlib.Core.List.{List}
use Prim.Native.Nat.{ℕ}
use native.Mathlib.Omega.{arith}
use lib.IntN.{ℤ}
use borrow.Author.Rules.{rules}
use Rattle.quick.specs.Shown.{Holds}
use Rattle.solvers.specs.Run.{Begins}
use Rattle.quick.proofs.Comings.{held_started, came_to, write_asks}
use Rattle.quick.proofs.ByKeysSteps.run.Goals as goal

-- the bounds are those of a fresh run, and at most 64 lines: the keys hold what is computed
holds : {n : ℕ} {costs : List ℤ} {mask : List ℕ} {budget : ℕ} {working : List ℤ} {marks : List ℕ} {row_prices column_prices : List ℤ}
    (b : Begins n costs mask budget working marks row_prices column_prices) → Holds b.frame
holds b = let most = b.frame.word.most in rw b.fresh (omega (arith, most))

pub start-begun-requires : goal.start-begun-requires
start-begun-requires c =
    let asks = c.requires.asks in
    let grid = asks.grid in
    record {
      fills = record { most = grid.word.most; costs_square = asks.costs_square; mask_square = grid.mask_square; keys_square = grid.working_square };
      rows = asks.rows;
      row_lines = asks.row_lines;
      column_lines = asks.column_lines;
    }

pub run_steps-ended-requires : goal.run_steps-ended-requires
run_steps-ended-requires c =
    let b = c.requires in
    (held_started b.frame (holds b) b.kept c.start-begun.result c.start-begun.ensures.started).0

pub write_working-requires : goal.write_working-requires
write_working-requires c = write_asks c.run_steps-ended.ensures c.requires.asks.costs_square (search rules)

pub returns : goal.returns
returns c =
    let b = c.requires in
    came_to c.run_steps-ended.ensures
    (held_started b.frame (holds b) b.kept c.start-begun.result {opened = c.start-begun.new.opened} c.start-begun.ensures.started).1
    c.write_working.ensures c.write_marks.ensures
