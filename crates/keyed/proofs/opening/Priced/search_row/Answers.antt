-- `Priced::search_row` walks over the open columns, lowest first (`Sought`).
use mathlib.Core.Path.{◌≡◌, sym, ◌∙◌}
use mathlib.Core.Logic.{◌≢◌}
use mathlib.Core.List.{List}
use Prim.Native.Nat.{ℕ, ◌≤◌}
use lib.IntN.{ℤ}
use borrow.Author.Count.{below_none, below_more}
use Rattle.lines.specs.First.{first}
use Rattle.lines.specs.Sets.{has, rest}
use Rattle.lines.proofs.Sets.{rest_lt}
use Rattle.lines.proofs.Walks.{Passes, Met, walk_begin, walk_meets, walk_turn, walk_end, lacked, not_lacked}
use Rattle.ground.proofs.Wide.{back64}
use Rattle.keyed.proofs.Cheapests.{Sought, Shut, sought_first, sought_pass, sought_less, sought_same, sought_all}
use Rattle.keyed.proofs.opening.Priced.search_row.Goals as goal

-- a column of the set is passed over
covered : (n columns : ℕ) (keys row_prices column_prices : List ℤ) (i c : ℕ) (least : ℤ) → Passes n (rest n columns) (Sought n columns keys row_prices column_prices i c least)
covered n columns keys row_prices column_prices i c least k h e s = sought_pass n columns keys row_prices column_prices k (not_lacked n columns k h e) s

-- the lowest open column: those below it are shut
meets_first : (n columns : ℕ) {left t : ℕ} → n ≤ 64 → rest n columns ≢ 0 → left ≡ rest n columns → t ≡ first (has left) 64 → Met 64 n (rest n columns) (Shut columns) left t
meets_first n columns most some e f =
    walk_meets 64 most (λ none. some (sym e ∙ none)) f
    (rw e (walk_begin (rest_lt n columns) (below_none _) (λ k h l p. below_more _ k p (not_lacked n columns k h l))))

-- ---- the first column

pub key_at-least-requires-clause-column_below : goal.key_at-least-requires-clause-column_below
key_at-least-requires-clause-column_below c =
    let p = c.requires in
    let m = meets_first _ _ p.safe.word.most p.some c.uncovered_lines-open.ensures c.lowest_line-cheapest.ensures in
    m.below

pub loop-column-init : goal.loop-column-init
loop-column-init c =
    let p = c.requires in
    let m = meets_first _ _ p.safe.word.most p.some c.uncovered_lines-open.ensures c.lowest_line-cheapest.ensures in
    rw (c.into_iter-column-iterator.ensures.into_iter_gives, c.members-column-items.ensures)
    (m.on _ _ c.without_lowest.ensures
    (sought_first _ _ _ _ _ m.below (lacked _ _ _ m.below m.member) (back64 _ c.key_at-least.type_inv ∙ c.key_at-least.ensures) m.kept)
    (covered _ _ _ _ _ _ _ _))

-- ---- a turn: the column that it meets

pub key_at-here-requires-clause-column_below : goal.key_at-here-requires-clause-column_below
key_at-here-requires-clause-column_below c =
    let m = walk_turn c.requires.safe.word.most c.in-Some.ensures.steps c.loop-column.invariant in
    m.below

pub loop-column-preserved-then-here-least : goal.loop-column-preserved-then-here-least
loop-column-preserved-then-here-least c =
    let m = walk_turn c.requires.safe.word.most c.in-Some.ensures.steps c.loop-column.invariant in
    let v = back64 _ c.key_at-here.type_inv ∙ c.key_at-here.ensures in
    m.on _ (sought_less _ _ _ _ _ _ _ v m.kept m.below (lacked _ _ _ m.below m.member) c.if-here-least.true) (covered _ _ _ _ _ _ _ _)

pub loop-column-preserved : goal.loop-column-preserved
loop-column-preserved c =
    let m = walk_turn c.requires.safe.word.most c.in-Some.ensures.steps c.loop-column.invariant in
    let v = back64 _ c.key_at-here.type_inv ∙ c.key_at-here.ensures in
    m.on _ (sought_same _ _ _ _ _ _ _ v m.kept c.if-here-least.false) (covered _ _ _ _ _ _ _ _)

pub returns : goal.returns
returns c = sought_all _ _ _ _ _ (walk_end c.in-None.ensures.steps.0 c.loop-column.invariant)
