-- Each of the code's ways, as a step of the machine that its state shows.
use mathlib.Core.Path.{◌≡◌, refl, sym, ap, ◌∙◌}
use mathlib.Core.Bool.{true}
use mathlib.Core.List.{List}
use Prim.Native.Nat.{ℕ}
use lib.IntN.{ℤ}
use lib.Signed.{lt_z}
use lib.ListN.{length}
use Rattle.lines.specs.Square.{table}
use Rattle.lines.proofs.Tests.{by_cases}
use Rattle.steps.specs.Lent.{allows}
use Rattle.steps.specs.Steps as S
use Rattle.steps.specs.Steps.{Machine}
use Rattle.steps.specs.Counts.{over}
use Rattle.ground.specs.View.{view, view_next}
use Rattle.ground.specs.declared.run.Next.TheVariants.{Step3, Step4, Step5, Step6}
use Rattle.ground.proofs.Arms.{arm_end}
use Rattle.keyed.specs.Keys.{limit}
use Rattle.quick_steps.specs.Ways.{Primed, passes, covers, reaches, Adjusted, blocked, spent, adjusts, Crossed, full, part}
use Rattle.starred.specs.Flipping.{flipped}
use Rattle.quick.specs.Shown.{Held, HeldBy, shown_by, Turned}
use Rattle.quick_steps.specs.declared.State.{State}
use Rattle.starred.specs.declared.stars.Stars.{Stars}
use Rattle.keyed.specs.declared.opening.Opened.{Opened}
use Rattle.quick_steps.proofs.WayLaws.{zero_near, zero_below, zero_above}
use Rattle.quick.proofs.StepHeld.{none_made, above_made, held_none, reaches_made, held_reaches, covers_made, held_covers, blocked_made, held_blocked, spent_made, held_spent, adjusts_made, held_adjusts, flips_made, held_flips, full_made, held_full, part_made, held_part}
use Rattle.quick.proofs.HeldLaws.{searching_at}
use Rattle.quick.proofs.ShownLaws.{shown_is}

module _ {n : ℕ} {costs : List ℤ} {mask : List ℕ} {budget : ℕ} {m : Machine} {keys : List ℤ} where
  -- the machine's next is held, and has the code's run and prices
  turned : (r : State) {row_prices column_prices : List ℤ} {stars : Stars} {opened : Opened} {x : Machine} → S.step n (allows n mask) budget m ≡ x → x.run ≡ view r.run
      → x.row_prices ≡ row_prices → x.column_prices ≡ column_prices
      → Held n costs mask budget (S.step n (allows n mask) budget m) r.risen r.best keys stars.star stars.owner stars.prime opened.cheapest opened.key
      → Turned n costs mask budget m r keys row_prices column_prices stars opened
  turned r p a b c h =
      let e = shown_is h (ap (λ y. y.run) p ∙ a) (ap (λ y. y.row_prices) p ∙ b) (ap (λ y. y.column_prices) p ∙ c) in
      record { made = sym e; held = rw e at h }

module _ (n : ℕ) (costs : List ℤ) (mask : List ℕ) (budget : ℕ) (s : State) (keys row_prices column_prices : List ℤ) (stars : Stars) (opened : Opened)
    (h : HeldBy n costs mask budget s keys row_prices column_prices stars opened) where
  abbrev m : Machine
  m = shown_by n costs mask s row_prices column_prices stars

  pub turned_3 : {r : State} {opened' : Opened} → s.run.next ≡ Step3 → Crossed n s keys row_prices column_prices stars.star stars.owner opened.cheapest r opened'.cheapest opened'.key
      → Turned n costs mask budget m r keys row_prices column_prices stars opened'
  turned_3 {r} e (full q er ec) = let a = ap view_next e in turned r (full_made h a q) (sym er) refl refl (rw ec (held_full h a r.risen r.best q))
  turned_3 {r} e (part q er ez o w) = let a = ap view_next e in turned r (part_made h a q) (sym er) refl refl (rw ez (held_part h a r.best q o w))

  pub turned_4 : {r : State} {stars' : Stars} {opened' : Opened} → s.run.next ≡ Step4 → stars'.star ≡ stars.star → stars'.owner ≡ stars.owner → opened'.cheapest ≡ opened.cheapest
      → Primed n s keys row_prices column_prices stars.star stars.prime opened.key r stars'.prime opened'.key → Turned n costs mask budget m r keys row_prices column_prices stars' opened'
  turned_4 {r} e es eo ec (passes z g ep ek) =
      let a = ap view_next e in
      let d = searching_at h S.Step4 a in
      let p = by_cases (lt_z s.best limit) (λ near. above_made h a d near (zero_above 64 _ _ z near)) (λ far. none_made h a d far) in
      turned r p (sym g.run) refl refl (rw (es, eo, ec, ep, ek, g.risen, g.best) (held_none h a d p))
  turned_4 {r} e es eo ec (reaches z l er ep ek) =
      let a = ap view_next e in
      let d = searching_at h S.Step4 a in
      let near = zero_near 64 _ _ z in
      let zero = zero_below 64 _ _ z in
      turned r (reaches_made h a d near zero l) (sym er) refl refl (rw (es, eo, ec, ep, ek) (held_reaches h a d near zero l))
  turned_4 {r} {opened' = opened'} e es eo ec (covers z l er e1 e2 ep new) =
      let a = ap view_next e in
      let d = searching_at h S.Step4 a in
      let near = zero_near 64 _ _ z in
      let zero = zero_below 64 _ _ z in
      turned r (covers_made h a d near zero l) (sym er) refl refl (rw (es, eo, ec, ep, e1, e2) (held_covers h a d near zero l opened'.key new))

  pub turned_5 : {r : State} {stars' : Stars} (i j : ℕ) → s.run.next ≡ Step5 i j → view r.run ≡ S.augmenting (view s.run)
      → (stars'.star, stars'.owner) ≡ flipped n stars.prime n stars.star stars.owner i j → stars'.prime ≡ table (λ k. n) (length stars.prime)
      → Turned n costs mask budget m r keys row_prices column_prices stars' opened
  turned_5 {r} i j e er x y =
      let a = ap view_next e in
      turned r (flips_made h i j a) (sym er) refl refl (held_flips h i j a r.risen r.best x y)

  pub turned_6 : {r : State} {row_prices' column_prices' : List ℤ} → s.run.next ≡ Step6 → Adjusted budget s row_prices column_prices r row_prices' column_prices'
      → Turned n costs mask budget m r keys row_prices' column_prices' stars opened
  turned_6 {r} e (blocked f g ep ec) =
      let a = ap view_next e in
      let d = searching_at h S.Step6 a in
      turned r (blocked_made h a d f) (sym g.run) (sym ep) (sym ec) (rw (g.risen, g.best) (held_blocked h a d f))
  turned_6 {r} e (spent near q g ep ec) =
      let a = ap view_next e in
      let d = searching_at h S.Step6 a in
      turned r (spent_made h a d near q) (sym g.run) (sym ep) (sym ec) (rw (g.risen, g.best) (held_spent h a d near q))
  turned_6 {r} e (adjusts near q er e1 e2 ep ec) =
      let a = ap view_next e in
      let d = searching_at h S.Step6 a in
      turned r (adjusts_made h a d near q) (sym er) (sym ep) (sym ec) (rw (e1, e2) (held_adjusts h a d near q))

  -- at an end nothing moves
  pub turned_end : over (view_next s.run.next) ≡ true → Turned n costs mask budget m s keys row_prices column_prices stars opened
  turned_end o = record { made = arm_end n (allows n mask) budget m o; held = h }
