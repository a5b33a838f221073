-- What each step asks of the state, from what is held.
use mathlib.Core.Path.{◌≡◌, sym, ap, ◌∙◌}
use mathlib.Core.Logic.{◌≢◌}
use mathlib.Core.Bool.{true}
use mathlib.Core.List.{List}
use Prim.Native.Nat.{ℕ}
use lib.IntN.{ℤ, pos, ◌-ℤ◌}
use lib.Signed.{lt_z}
use Rattle.lines.proofs.Signed.{within_zero}
use Rattle.steps.specs.Lent.{allows}
use Rattle.steps.specs.Steps as S
use Rattle.steps.specs.Steps.{Machine}
use Rattle.ground.specs.View.{view_next}
use Rattle.ground.specs.Good.{Adjusts}
use Rattle.ground.specs.declared.run.Next.TheVariants.{Step3, Step4, Step5, Step6}
use Rattle.ground.proofs.GoodLaws.{more_primes, more_augmentations, adjusts}
use Rattle.keyed.specs.Keys.{limit, value_of}
use Rattle.quick_steps.specs.Ways.{change}
use Rattle.quick_steps.specs.Asks.{ForStep3, ForStep4, ForStep5, ForStep6}
use Rattle.quick.specs.Shown.{HeldBy, shown_by}
use Rattle.quick_steps.specs.declared.State.{State}
use Rattle.starred.specs.declared.stars.Stars.{Stars}
use Rattle.keyed.specs.declared.opening.Opened.{Opened}
use Rattle.quick.proofs.Choose.{some_open, least_found}
use Rattle.quick.proofs.TableLaws.{above, safe}
use Rattle.quick.proofs.HeldLaws.{searching_at, safe_during, names}
use Rattle.quick.proofs.StepHeld.{walks, some_free}

module _ (n : ℕ) (costs : List ℤ) (mask : List ℕ) (budget : ℕ) (s : State) (keys row_prices column_prices : List ℤ) (stars : Stars) (opened : Opened)
    (h : HeldBy n costs mask budget s keys row_prices column_prices stars opened) where
  abbrev m : Machine
  m = shown_by n costs mask s row_prices column_prices stars

  pub asks_3 : s.run.next ≡ Step3 → ForStep3 n keys row_prices column_prices stars.star stars.owner opened.cheapest
  asks_3 e = record {
    safe = safe h.tabled (pos 0) (within_zero 1099511627776);
    some = some_free h (ap view_next e);
    known = h.known;
  }

  pub asks_4 : s.run.next ≡ Step4 → ForStep4 n s keys row_prices column_prices
  asks_4 e =
      let d = searching_at h S.Step4 (ap view_next e) in
      record { safe = safe_during h d; names = names h d; more = more_primes h.tabled.kept (ap view_next e) }

  pub asks_5 : (i j : ℕ) → s.run.next ≡ Step5 i j → ForStep5 n s i j stars.owner stars.prime
  asks_5 i j e = record {
    most = h.tabled.frame.word.most;
    follows = walks h i j (ap view_next e);
    more = more_augmentations h.tabled.kept i j (ap view_next e);
  }

  -- where step 6 adjusts, the least value is what the key holds less what has risen
  adjusted : (e : s.run.next ≡ Step6) → lt_z s.best limit ≡ true → s.run.adjustments ≢ budget
      → Adjusts n (allows n mask) s.run.rows s.run.columns (change s) m.working row_prices column_prices
  adjusted e near ne =
      let d = searching_at h S.Step6 (ap view_next e) in
      let b = rw d.risen_is at d.least in
      let most = h.tabled.frame.word.most in
      let some = some_open 64 n (allows n mask) limit most m.working s.run.rows s.run.columns d.rise (above h.tabled) b near in
      let found = least_found 64 n (allows n mask) limit most m.working s.run.rows s.run.columns d.rise (above h.tabled) b near in
      rw (found ∙ ap (λ x. value_of 64 s.best -ℤ x) (sym d.risen_is)) at (adjusts h.tabled.kept (ap view_next e) ne some)

  pub asks_6 : s.run.next ≡ Step6 → ForStep6 n budget s row_prices column_prices
  asks_6 e = record {
    spare = h.tabled.kept.spare;
    whole = λ near. (names h (searching_at h S.Step6 (ap view_next e)) near).0;
    fits = λ near ne. (adjusted e near ne).change;
    adjusts = λ near ne.
        let a = adjusted e near ne in
        record {
          word = h.tabled.frame.word;
          row_lines = h.tabled.kept.going.shape.row_prices;
          column_lines = h.tabled.kept.going.shape.column_prices;
          back = a.back;
          lower = a.lower;
          higher = a.higher;
        };
  }
