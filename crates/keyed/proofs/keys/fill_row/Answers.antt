-- `keys::fill_row` puts the row's entries into their columns (`FillingRow`), and keeps the lowest so far (`Lowest`).
use mathlib.Core.Path.{◌≡◌, ◌∙◌}
use Prim.Native.Nat.{ℕ, ◌+◌, ◌*◌, ◌<◌}
use native.Mathlib.Omega.{arith}
use lib.IntN.{ℤ, pos}
use lib.ListN.{get_or}
use mir.Syntax.{w32, w64}
use mir.Facts.{to_z-of_z}
use mir.Val.{SFits, to_z, of_z}
use Rattle.steps.specs.Lent.{allows, cost_at}
use Rattle.steps.proofs.Masks.{allows_is}
use Rattle.ground.proofs.Wide.{back64}
use Rattle.keyed.specs.Keys.{entry}
use Rattle.keyed.specs.Filled.{Lowest}
use Rattle.keyed.proofs.KeyBits.{small32}
use Rattle.keyed.proofs.Fills.{lowest_less, lowest_same, filling_more}
use borrow.Author.Rules.{rules}
use Rattle.keyed.proofs.keys.fill_row.Goals as goal
use Rattle.keyed.proofs.keys.fill_row.Goals.{then-here-least, else-here-least}

-- the same column and entry by other names
by_name : {entries : ℕ → ℤ} {c c' : ℕ} {least least' : ℤ} {k : ℕ} → c' ≡ c → least' ≡ least → Lowest entries c least k → Lowest entries c' least' k
by_name e f l = rw (e, f) l

pub loop-column-preserved : goal.loop-column-preserved
unfolding entry cost_at
loop-column-preserved c =
    let m = c.args.matrix in
    let row = c.args.row in
    let l = c.loop-column in
    let h : l.column < m.n = omega arith in
    let r = l.invariant.0 in
    let g : SFits w32 (get_or m.costs.now (row * m.n + l.column) (pos 0)) = search rules in
    let v : to_z w64 (of_z w64 c.entry-here.result) ≡ entry 64 (allows m.n m.mask.now) (cost_at m.n m.costs.now) l.column row =
    back64 _ c.entry-here.type_inv ∙ c.entry-here.ensures ∙ rw (allows_is m.n m.mask.now row l.column (omega arith), to_z-of_z g) in (
      r,
      filling_more _ _ _ _ _ c.requires.1 h v (small32 _ g.sfits) l.invariant.1,
      elim c.if-here-least.branch [
        | then-here-least w ↦ by_name w.cheapest-is w.least-is (lowest_less _ _ _ v l.invariant.2 w.if-here-least.true)
        | else-here-least w ↦ by_name w.cheapest-is w.least-is (lowest_same _ _ _ v l.invariant.2 w.if-here-least.false)
      ],
    )
