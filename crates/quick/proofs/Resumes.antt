-- A run that is taken up from any state that keeps the invariants, at step 3 or at step 4: what is held then.
use mathlib.Core.Path.{◌≡◌, refl, sym, subst}
use mathlib.Core.List.{List}
use Prim.Native.Nat.{ℕ, ◌<◌}
use native.Mathlib.Omega.{arith}
use lib.IntN.{ℤ, pos, ◌-ℤ◌}
use lib.ListN.{get_or}
use Rattle.lines.proofs.Signed.{signed, minus_parts}
use Rattle.steps.specs.Lent.{allows}
use Rattle.steps.specs.Steps as S
use Rattle.steps.specs.Steps.{Machine}
use Rattle.steps.specs.Going.{Search}
use Rattle.ground.specs.View.{view}
use Rattle.ground.specs.declared.run.Run.{Run}
use Rattle.ground.proofs.GoodLaws.{sound_at}
use Rattle.quick_steps.specs.Ways.{TakenUp}
use Rattle.quick.specs.Shown.{Lines, During, Searching, Tabled, Held}
use Rattle.quick_steps.specs.declared.State.{State}
use Rattle.quick.proofs.TableLaws.{told_own, shut_own, column_small, free_of}

module _ {n : ℕ} {costs : List ℤ} {mask : List ℕ} {budget : ℕ} {m : Machine} {keys : List ℤ} (h : Tabled n costs mask budget m keys) where
  -- the keys that were made are those of a phase
  during_taken : (run : Run) (r : State) {key : List ℤ} → m.run ≡ view run → Search n (allows n mask) m.working m.marks m.run.rows m.run.columns
      → TakenUp n run keys m.row_prices m.column_prices r key → During n (allows n mask) m r.risen r.best key
  during_taken run r e s t =
      let x = t.opens (allows n mask) m.working (told_own h) (shut_own h) in
      let f = free_of s in
      let c = get_or m.column_prices f.0 (pos 0) in
      let same : c -ℤ pos 0 ≡ c = omega (signed, minus_parts c (pos 0)) in
      rw t.risen (record {
        rise = 0;
        risen_is = refl;
        keys = rw e x.0;
        least = rw e x.1;
        free = f.0;
        free_below = f.1;
        bare = f.2;
        from = rw same (column_small h f.0 f.1);
      })

  -- no cheapest column is known
  module _ {star owner prime cheapest : List ℕ} {key : List ℤ} (lines : Lines n m.marks star owner prime) (none_known : (i : ℕ) → i < n → get_or cheapest i 0 ≡ n) where
    begins : {risen best : ℤ} → Searching m.run.next n (allows n mask) m risen best key → Held n costs mask budget m risen best keys star owner prime cheapest key
    begins s = record {
      tabled = h;
      lines = lines;
      known = λ i hi l f. absurd (omega (arith, none_known i hi));
      searching = s;
    }

    pub held_at_3 : (risen best : ℤ) → m.run.next ≡ S.Step3 → Held n costs mask budget m risen best keys star owner prime cheapest key
    held_at_3 risen best e = begins (subst (λ x. Searching x n (allows n mask) m risen best key) (sym e) tt)

    pub held_at_4 : (run : Run) (r : State) → m.run.next ≡ S.Step4 → m.run ≡ view run → TakenUp n run keys m.row_prices m.column_prices r key
        → Held n costs mask budget m r.risen r.best keys star owner prime cheapest key
    held_at_4 run r e same t =
        begins (subst (λ x. Searching x n (allows n mask) m r.risen r.best key) (sym e) (during_taken run r same (sound_at h.kept S.Step4 e) t))
