-- What the code needs of the machine in a phase: bounds, and what the least key names. And the machine's step, told of the code's arrays.
use mathlib.Core.Path.{◌≡◌, sym, subst, ◌∙◌}
use mathlib.Core.Bool.{Bool, true}
use mathlib.Core.List.{List}
use Prim.Native.Nat.{ℕ, ◌+◌, ◌*◌, ◌<◌}
use native.Mathlib.Omega.{arith}
use lib.IntN.{ℤ, pos, ◌+ℤ◌, ◌*ℤ◌}
use lib.Signed.{lt_z}
use lib.ListN.{get_or}
use Rattle.lines.specs.Square.{cell}
use Rattle.lines.specs.Bounds.{Within}
use Rattle.lines.proofs.Signed.{P, signed, plus_parts, minus_parts, neg_parts}
use Rattle.steps.specs.Lent.{allows}
use Rattle.steps.specs.Steps.{Machine}
use Rattle.steps.specs.Going.{Open}
use Rattle.ground.proofs.GoodLaws.{kept_step}
use Rattle.keyed.specs.Keys.{limit, pack}
use Rattle.keyed.specs.Best.{key_at}
use Rattle.keyed.specs.Asks.{Safe, Names}
use Rattle.keyed.specs.Opening.{Known}
use Rattle.starred.specs.Columns.{starred}
use Rattle.quick.specs.Shown.{most_value, Lines, During, Searching, Held}
use Rattle.keyed.proofs.Packs.{times_parts, pack_pos}
use Rattle.quick.proofs.Choose.{row_named, column_named, key_is}
use Rattle.quick.proofs.TableLaws.{within_more, above, column_small, cell_small, safe}
use Rattle.steps.specs.Steps as S

module _ {n : ℕ} {costs : List ℤ} {mask : List ℕ} {budget : ℕ} {m : Machine} {risen best : ℤ} {keys : List ℤ} {star owner prime cheapest : List ℕ} {key : List ℤ}
    (h : Held n costs mask budget m risen best keys star owner prime cheapest key) where
  abbrev ok : ℕ → ℕ → Bool
  ok = allows n mask

  pub searching_at : (x : S.Next) → m.run.next ≡ x → Searching x n ok m risen best key
  searching_at x e = subst (λ x. Searching x n ok m risen best key) e h.searching

  -- ---- in a phase

  module _ (d : During n ok m risen best key) where
    pub risen_small : Within 549755813888 risen
    risen_small =
        let a = d.from in
        let b = column_small h.tabled d.free d.free_below in
        let c = get_or m.column_prices d.free (pos 0) in
        record {
          above = omega (signed, a.below, b.above, minus_parts c risen, neg_parts (pos most_value), neg_parts (pos 549755813888));
          below = omega (signed, a.above, b.below, minus_parts c risen, neg_parts (pos most_value));
        }

    pub safe_during : Safe n risen keys m.row_prices m.column_prices
    safe_during = safe h.tabled risen (within_more (omega arith) risen_small)

    -- the keys of open cells are below the limit
    pub bounded : (i j : ℕ) → i < n → j < n → Open ok m.run.rows m.run.columns i j → lt_z (key_at 64 n ok limit m.working risen i j) limit ≡ true
    unfolding pack
    bounded i j hi hj o =
        let w = cell (pos 0) n m.working i j in
        let v = w +ℤ risen in
        omega (signed, (cell_small h.tabled i j hi hj).below, risen_small.below, plus_parts w risen, times_parts v 4096, plus_parts (v *ℤ pos 4096) (pos (j * 64 + i)), h.tabled.frame.word.most)

    -- what the least key names
    pub names : Names n best
    names near =
        let e = d.risen_is in
        let b = rw e at d.least in
        let r = row_named 64 n ok limit h.tabled.frame.word.most m.working m.run.rows m.run.columns d.rise (above h.tabled) b near in
        let c = column_named 64 n ok limit h.tabled.frame.word.most m.working m.run.rows m.run.columns d.rise (above h.tabled) b near in
        let k = b.hit near in
        let u : best ≡ pack 64 (pos (P (cell (pos 0) n m.working k.row k.in_row.column) + d.rise)) k.in_row.column k.row =
        k.in_row.value ∙ key_is 64 n ok limit h.tabled.frame.word.most m.working m.run.rows m.run.columns d.rise (above h.tabled) b k.row k.in_row.column k.row_below k.in_row.column_below k.in_row.is_open.allowed in
        (rw (u, pack_pos 64 (P (cell (pos 0) n m.working k.row k.in_row.column) + d.rise) k.in_row.column k.row) (omega signed), rw r k.row_below, rw c k.in_row.column_below)

  -- ---- the machine's step, told of the code's arrays

  pub held_next : {m' : Machine} {risen' best' : ℤ} {star' owner' prime' cheapest' : List ℕ} {key' : List ℤ} → S.step n ok budget m ≡ m'
      → Lines n m'.marks star' owner' prime' → Known n (starred n owner') keys m'.row_prices m'.column_prices cheapest'
      → Searching m'.run.next n ok m' risen' best' key'
      → Held n costs mask budget (S.step n ok budget m) risen' best' keys star' owner' prime' cheapest' key'
  held_next {m'} {risen'} {best'} {star'} {owner'} {prime'} {cheapest'} {key'} e l w s = record {
    tabled = record { frame = h.tabled.frame; holds = h.tabled.holds; kept = kept_step h.tabled.kept; table = h.tabled.table };
    lines = subst (λ y. Lines n y.marks star' owner' prime') (sym e) l;
    known = subst (λ y. Known n (starred n owner') keys y.row_prices y.column_prices cheapest') (sym e) w;
    searching = subst (λ y. Searching y.run.next n ok y risen' best' key') (sym e) s;
  }
