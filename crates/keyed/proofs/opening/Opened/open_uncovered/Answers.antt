-- `Opened::open_uncovered` opens the columns, lowest first (`Opening`).
use mathlib.Core.Path.{refl, ◌∙◌}
use mathlib.Core.List.{List}
use Prim.Native.Nat.{ℕ, ◌<◌}
use native.Mathlib.Omega.{arith}
use lib.IntN.{ℤ, pos}
use lib.ListN.{get_or}
use mir.Syntax.{w64}
use mir.Val.{SFits}
use mir.Facts.{to_z-of_z}
use Rattle.lines.specs.Sets.{rest}
use Rattle.lines.proofs.Sets.{rest_lt}
use Rattle.std.proofs.lemmas.List.{get_or-replicate}
use Rattle.lines.proofs.Squares.{place_lt}
use Rattle.lines.proofs.Walks.{Passes, walk_begin, walk_turn, walk_end, lacked, not_lacked}
use Rattle.ground.proofs.Wide.{back64}
use Rattle.keyed.specs.Keys.{far}
use Rattle.keyed.proofs.KeyBits.{wider}
use Rattle.keyed.proofs.OpenColumns.{Opening, opening_none, opening_skip, opening_more, opening_all}
use borrow.Author.Rules.{rules}
use Rattle.keyed.proofs.opening.Opened.open_uncovered.Goals as goal
use Rattle.keyed.proofs.opening.Opened.open_uncovered.Goals.{In-Some}

-- a column of the set stays shut
covered : (n rows columns : ℕ) (keys row_prices column_prices key : List ℤ) (best : ℤ) → Passes n (rest n columns) (Opening n rows columns keys row_prices column_prices key best)
covered n rows columns keys row_prices column_prices key best k h e o = opening_skip n rows columns keys row_prices column_prices k h (not_lacked n columns k h e) o

pub loop-column-init : goal.loop-column-init
loop-column-init c = (
  rw (c.into_iter-column-iterator.ensures.into_iter_gives, c.members-column-items.ensures, c.uncovered_lines.ensures)
      (walk_begin (rest_lt c.args.priced.n c.args.columns)
      (opening_none _ _ _ _ _ _ _ (λ i h. rw (c.fill.ensures.after (λ y e. e)) (get_or-replicate _ i far (pos 0) (omega (arith, c.requires.word.most)))))
      (covered _ _ _ _ _ _ _ _)),
  refl,
)

-- ---- a turn: the column that it meets

met : (c : In-Some) → c.in-Some.column < c.args.priced.n
met c = (walk_turn c.requires.word.most c.in-Some.ensures.steps c.loop-column.invariant.0).below

pub offset_bounds-priced-column : goal.offset_bounds-priced-column
offset_bounds-priced-column c = let h = met (goal.at.offset_bounds-priced-column c).In-Some in search rules

pub bounds-priced-column : goal.bounds-priced-column
bounds-priced-column c = let h = met (goal.at.bounds-priced-column c).In-Some in search rules

pub lower-best-requires : goal.lower-best-requires
lower-best-requires c =
    let h = met (goal.at.lower-best-requires c).In-Some in
    let safe = c.requires in
    let f : SFits w64 (get_or c.args.priced.column_prices.now c.in-Some.column (pos 0)) = search rules in
    record {
      word = safe.word;
      keys_square = safe.keys_square;
      row_lines = safe.row_lines;
      below = h;
      price_within = rw (to_z-of_z f) (wider (safe.column_within _ h));
      row_within = λ i hi. wider (safe.row_within i hi);
      entry_within = λ i hi. safe.entry_within _ (place_lt _ _ i h hi);
    }

pub loop-column-preserved : goal.loop-column-preserved
loop-column-preserved c =
    let m = walk_turn c.requires.word.most c.in-Some.ensures.steps c.loop-column.invariant.0 in
    let f : SFits w64 (get_or c.args.priced.column_prices.now c.in-Some.column (pos 0)) = search rules in
    let e = rw (to_z-of_z f) at c.lower-best.ensures.keys in
    let b = rw (to_z-of_z f) at c.lower-best.ensures.least in (
      m.on _
          (opening_more _ _ _ _ _ _ _ _ _ m.below (lacked _ _ _ m.below m.member) e (back64 _ c.lower-best.type_inv ∙ b) m.kept)
          (covered _ _ _ _ _ _ _ _),
      c.lower-best.ensures.kept ∙ c.loop-column.invariant.1,
    )

pub returns-clause-opens : goal.returns-clause-opens
returns-clause-opens c = opening_all _ _ _ _ _ _ (walk_end c.in-None.ensures.steps.0 c.loop-column.invariant.0)
