-- `Opened::lower` meets its contract: the uncovered rows so far are lowered, and the least of them is kept (`Lowered`).
use mathlib.Core.Path.{refl, ◌∙◌}
use mathlib.Core.List.{List}
use Prim.Native.Nat.{ℕ, ◌+◌, ◌*◌, ◌<◌}
use native.Mathlib.Omega.{arith}
use lib.IntN.{ℤ, pos}
use lib.ListN.{get_or}
use mir.Syntax.{w64}
use mir.Val.{SFits}
use mir.Facts.{to_z-of_z}
use Rattle.lines.specs.Sets.{rest}
use Rattle.lines.proofs.Sets.{rest_lt}
use Rattle.lines.proofs.Walks.{Passes, walk_begin, walk_turn, walk_end, lacked, not_lacked}
use Rattle.lines.proofs.Rows.{row_cell, row_length}
use Rattle.lines.proofs.Bounds.{row_fits}
use Rattle.ground.proofs.Wide.{back64}
use Rattle.keyed.proofs.Lowers.{Lowered, lowered_none, lowered_skip, lowered_store}
use borrow.Author.Rules.{rules}
use Rattle.keyed.proofs.opening.Opened.lower.Goals as goal
use Rattle.keyed.proofs.opening.Opened.lower.Goals.{In-Some}

-- a covered row changes nothing
covered : (n rows : ℕ) (term : ℕ → ℤ) (key₀ key : List ℤ) (best : ℤ) → Passes n (rest n rows) (Lowered rows term key₀ key best)
covered n rows term key₀ key best k h e l = lowered_skip rows term key₀ k (not_lacked n rows k h e) l

pub loop-row-init : goal.loop-row-init
loop-row-init c = (
  row_fits _ _ c.requires.word.most c.requires.below,
  rw (c.into_iter-row-iterator.ensures.into_iter_gives, c.members-row-items.ensures, c.uncovered_lines.ensures)
      (walk_begin (rest_lt c.args.priced.n c.args.rows) (lowered_none c.args.rows _ c.args.self.now.key) (covered _ _ _ _ _ _)),
  refl,
)

-- ---- a turn: the line that it meets

met : (c : In-Some) → c.in-Some.row < c.args.priced.n
met c = (walk_turn c.requires.word.most c.in-Some.ensures.steps c.loop-row.invariant.1).below

pub offset_bounds-self-row : goal.offset_bounds-self-row
offset_bounds-self-row c = let h = met (goal.at.offset_bounds-self-row c).In-Some in search rules

pub bounds-self-row : goal.bounds-self-row
bounds-self-row c = let h = met (goal.at.bounds-self-row c).In-Some in search rules

pub offset_bounds-in_column-row : goal.offset_bounds-in_column-row
offset_bounds-in_column-row c = let h = met (goal.at.offset_bounds-in_column-row c).In-Some in search rules

pub bounds-in_column-row : goal.bounds-in_column-row
bounds-in_column-row c =
    let h = met (goal.at.bounds-in_column-row c).In-Some in
    omega (arith, row_length (pos 0) c.args.priced.keys.now c.args.priced.n c.args.column c.requires.keys_square c.requires.below)

pub offset_bounds-priced-row : goal.offset_bounds-priced-row
offset_bounds-priced-row c = let h = met (goal.at.offset_bounds-priced-row c).In-Some in search rules

pub bounds-priced-row : goal.bounds-priced-row
bounds-priced-row c = let h = met (goal.at.bounds-priced-row c).In-Some in search rules

pub less_prices-term-requires : goal.less_prices-term-requires
less_prices-term-requires c =
    let h = met (goal.at.less_prices-term-requires c).In-Some in
    let line = c.in-Some.row in
    let e : SFits w64 (get_or c.args.priced.keys.now (c.args.column * c.args.priced.n + line) (pos 0)) = search rules in
    let f : SFits w64 (get_or c.args.priced.row_prices.now line (pos 0)) = search rules in
    let entry = row_cell (pos 0) c.args.priced.keys.now c.args.priced.n c.args.column c.requires.keys_square c.requires.below line h in
    record {
      entry_within = rw (entry, to_z-of_z e) (c.requires.entry_within _ h);
      row_within = rw (to_z-of_z f) (c.requires.row_within _ h);
      price_within = rw (to_z-of_z c.ranges.price) c.requires.price_within;
    }

pub offset_bounds-self-row-in-loop-row : goal.offset_bounds-self-row-in-loop-row
offset_bounds-self-row-in-loop-row c = let h = met (goal.at.offset_bounds-self-row-in-loop-row c).In-Some in search rules

pub bounds-self-row-in-loop-row : goal.bounds-self-row-in-loop-row
bounds-self-row-in-loop-row c = let h = met (goal.at.bounds-self-row-in-loop-row c).In-Some in search rules

pub loop-row-preserved : goal.loop-row-preserved
loop-row-preserved c =
    let m = walk_turn c.requires.word.most c.in-Some.ensures.steps c.loop-row.invariant.1 in
    let line = c.in-Some.row in
    let e : SFits w64 (get_or c.args.priced.keys.now (c.args.column * c.args.priced.n + line) (pos 0)) = search rules in
    let f : SFits w64 (get_or c.args.priced.row_prices.now line (pos 0)) = search rules in
    let k : SFits w64 (get_or c.loop-row.self.key line (pos 0)) = search rules in
    let entry = row_cell (pos 0) c.args.priced.keys.now c.args.priced.n c.args.column c.requires.keys_square c.requires.below line m.below in
    let new = back64 _ c.less_prices-term.type_inv ∙ rw (entry, to_z-of_z e, to_z-of_z f) at c.less_prices-term.ensures in
    let here = back64 _ c.min-here.type_inv ∙ rw (to_z-of_z k, new) at c.min-here.ensures.value in
    let least = back64 _ c.min-best.type_inv ∙ c.min-best.ensures.value in (
      c.loop-row.invariant.0,
      m.on _
          (lowered_store _ _ _ _ _ _ (lacked _ _ _ m.below m.member) (omega (arith, m.below, m.kept.passed.long)) here least m.kept)
          (covered _ _ _ _ _ _),
      c.loop-row.invariant.2,
    )

pub returns-clause-keys : goal.returns-clause-keys
returns-clause-keys c =
    rw (to_z-of_z c.ranges.price) at (walk_end c.in-None.ensures.steps.0 c.loop-row.invariant.1).passed.done

pub returns-clause-least : goal.returns-clause-least
returns-clause-least c =
    rw (to_z-of_z c.ranges.price) at (walk_end c.in-None.ensures.steps.0 c.loop-row.invariant.1).least
