-- What a run of the code begins with, and what it ends with.
use mathlib.Core.Path.{◌≡◌, refl, sym, ◌∙◌}
use mathlib.Core.List.{List}
use Prim.Native.Nat.{ℕ, min}
use native.Mathlib.Omega.{arith}
use lib.IntN.{ℤ}
use Rattle.steps.specs.Lent.{allows, cost_at}
use Rattle.steps.specs.Steps as S
use Rattle.steps.specs.Steps.{Machine, machine}
use Rattle.steps.proofs.Marks.{find_prime}
use Rattle.ground.specs.Square.{Square}
use Rattle.ground.specs.View.{view}
use Rattle.ground.specs.Good.{Frame, Kept, Good, Came}
use Rattle.ground.proofs.GoodLaws.{sound_at}
use Rattle.ground.proofs.Arms.{Coming}
use Rattle.starred.specs.Asks.{WritesWorking}
use Rattle.quick_steps.specs.Start.{Started}
use Rattle.quick.specs.Shown.{Holds, Held, HeldBy, shown_by, Reached}
use Rattle.starred.specs.Written.{working_of, marks_of}
use Rattle.quick_steps.specs.declared.State.{State}
use Rattle.starred.specs.declared.stars.Stars.{Stars}
use Rattle.keyed.specs.declared.opening.Opened.{Opened}
use Rattle.quick.proofs.Resumes.{held_at_3}
use Rattle.quick.proofs.ShownLaws.{shown_is}
use Rattle.quick.proofs.TableLaws.{within_more, row_small, column_small}

pub good : {n : ℕ} {costs : List ℤ} {mask : List ℕ} {budget : ℕ} {m : Machine} {risen best : ℤ} {keys : List ℤ} {star owner prime cheapest : List ℕ} {key : List ℤ}
    → Held n costs mask budget m risen best keys star owner prime cheapest key → Good n mask budget m
good {n} {costs} h = record { cost = cost_at n costs; frame = h.tabled.frame; kept = h.tabled.kept }

-- ---- between two steps

-- some steps have led to the machine that the state shows and holds
pub record Comes (n : ℕ) (costs : List ℤ) (mask : List ℕ) (budget : ℕ) (m : Machine) (s : State) (keys row_prices column_prices : List ℤ) (stars : Stars) (opened : Opened) : Type 0 where
  pub coming : Coming n mask budget m (shown_by n costs mask s row_prices column_prices stars)
  pub held : HeldBy n costs mask budget s keys row_prices column_prices stars opened

-- ---- the start

pub held_started : {n : ℕ} {costs : List ℤ} {mask : List ℕ} {budget : ℕ} (f : Frame n mask (cost_at n costs)) → Holds f → Kept f budget (S.start n (allows n mask) (cost_at n costs))
    → (s : State) {keys row_prices column_prices : List ℤ} {stars : Stars} {opened : Opened}
    → Started n costs mask s keys row_prices column_prices stars.star stars.owner stars.prime opened.cheapest
    → HeldBy n costs mask budget s keys row_prices column_prices stars opened × (S.start n (allows n mask) (cost_at n costs) ≡ shown_by n costs mask s row_prices column_prices stars)
unfolding S.start
held_started {n} {costs} {mask} {budget} f holds k s {keys} {stars = stars} {opened} b =
    let m = S.start n (allows n mask) (cost_at n costs) in
    let starred = (sound_at k S.Step3 refl).0 in
    let h : Held n costs mask budget m s.risen s.best keys stars.star stars.owner stars.prime opened.cheapest opened.key =
    held_at_3
    (record { frame = f; holds = holds; kept = k; table = b.table })
    (record {
      star_long = b.star_long;
      owner_long = b.owner_long;
      prime_long = b.prime_long;
      star_is = b.star_is;
      owner_is = b.owner_is;
      prime_is = λ i hi. b.no_prime i hi ∙ sym (find_prime starred.shows i (λ l. absurd (omega arith)) ∙ (let q : min n n ≡ n = omega arith in q));
    })
    b.none_known s.risen s.best refl in
    let e = shown_is h (sym b.begun) (sym b.row_prices_are) (sym b.column_prices_are) in
    (rw e at h, e)

-- ---- the end

module _ {n : ℕ} {costs : List ℤ} {mask : List ℕ} {budget : ℕ} {m : Machine} {r : State} {keys row_prices column_prices : List ℤ} {stars : Stars} {opened : Opened}
    (x : Reached n costs mask budget m r keys row_prices column_prices stars opened) where
  -- with the working values and the marks that are then written
  pub came_to : {before : Machine} {working : List ℤ} {marks : List ℕ} → before ≡ m → working ≡ working_of n costs mask row_prices column_prices → marks ≡ marks_of n stars.star stars.prime
      → Came n mask budget before (machine (view r.run) working marks row_prices column_prices)
  came_to eb ew em = rw (eb, ew, em) x.came

  pub write_asks : {working : List ℤ} → Square n costs → Square n working → WritesWorking n costs mask row_prices column_prices working
  write_asks sc sw =
      let h = x.held in
      record {
        costs_square = sc;
        mask_square = h.tabled.frame.mask_square;
        working_square = sw;
        row_lines = h.tabled.kept.going.shape.row_prices;
        column_lines = h.tabled.kept.going.shape.column_prices;
        row_within = λ i hi. within_more (omega arith) (row_small h.tabled i hi);
        column_within = λ j hj. within_more (omega arith) (column_small h.tabled j hj);
      }
