-- The theorems about a call that stand beside the promise, each by its name. `answered` and `promised` are in Promised.antt.
use mathlib.Core.Path.{◌≡◌, refl, sym, ap, subst, ◌∙◌}
use mathlib.Core.Logic.{◌≢◌}
use mathlib.Core.Bool.{Bool}
use mathlib.Core.List.{List}
use Prim.Native.Nat.{ℕ, ◌+◌, ◌-◌, ◌*◌, ◌≤◌, ◌<◌, min}
use native.Mathlib.Omega.{arith}
use lib.IntN.{ℤ}
use lib.ListN.{length}
use Rattle.lines.proofs.Squares.{table_at}
use Rattle.steps.specs.declared.Answer.{Answer}
use Rattle.steps.specs.Lent.{Task, Buffers, allowed, cost}
use Rattle.steps.specs.Refusal.{accepted, verdict}
use Rattle.steps.specs.Steps.{Unfinished, End, paired, no_pairing, unfinished, Machine, star_in_column, prime_in_row, star_in_row, start, path}
use Rattle.steps.specs.Counts.{adjusts, primes, augments, turns}
use Rattle.steps.specs.Outcome.{given, returned, reached, judged, Outcome}
use Rattle.steps.specs.Promise.{Promise}
use Rattle.steps.proofs.Runs.{kept}
use Rattle.steps.specs.Going.{Shape, Ends, Sound, Sound_at, Ready}
use Rattle.steps.proofs.Shape.{shape_start, shape_step}
use Rattle.steps.proofs.Start.{sound_start}
use Rattle.steps.proofs.Ends as E
use Rattle.steps.proofs.Marks.{find_prime}
use Rattle.steps.proofs.Path.{star_off, path_length, path_ends, prime_there}
use Rattle.steps.proofs.Search.{sound_step, time', prime', chained, early, at_prime}
use Rattle.steps.proofs.Budget.{Spent, spent, spent_start}
use Rattle.steps.proofs.Counted.{counted}
use Rattle.steps.proofs.Verdicts.{SameLengths, with_budget, with_costs, SameAllowed}
use Rattle.steps.proofs.Answers as A
use Rattle.steps.proofs.Answers.{EachSameOrUntouched, PairedAllowed}
use Rattle.steps.proofs.Returned.{returned_is}
use Rattle.steps.proofs.Promised.{promised}

-- ---- the path of step 5: at most 2 n - 1 places, all in the square, and a prime wherever one is looked for

module _ (n : ℕ) (ok : ℕ → ℕ → Bool) {working : List ℤ} {marks : List ℕ} {rows columns i j : ℕ} (s : Ready n ok working marks rows columns i j) where
  pub path_fits : length (path n marks n i j) ≤ 2 * n - 1
  path_fits =
      let h = path_length s.shows (time' n ok s) s.row s.phase.matching (chained n ok s) n i s.last.row_below (rw (at_prime n ok s) s.last.column_below) in
      let l : length (path n marks n i j) ≤ 2 * time' n ok s i + 1 = rw (at_prime n ok s) at h in
      omega (arith, early n ok s)

  pub ready_ends : Ends n marks n i j
  ready_ends =
      let p : prime' n ok s i < n = rw (at_prime n ok s) s.last.column_below in
      rw (at_prime n ok s) at (path_ends s.shows (time' n ok s) s.row s.phase.matching (chained n ok s) n i s.last.row_below p (early n ok s))

  pub prime_always : (r : ℕ) → r < n → prime_in_row n marks r < n → star_in_column n marks (prime_in_row n marks r) < n
      → prime_in_row n marks (star_in_column n marks (prime_in_row n marks r)) < n
  prime_always r hr =
      let e : prime_in_row n marks r ≡ min (prime' n ok s r) n =
      find_prime s.shows r (star_off s.shows (time' n ok s) s.row s.phase.matching (chained n ok s) r hr) in
      λ hp. let q : prime_in_row n marks r ≡ prime' n ok s r = e ∙ (omega arith) in
      rw q (prime_there s.shows (time' n ok s) s.row s.phase.matching (chained n ok s) r hr (omega arith))

-- ---- the counts of an answer are the turns on the way to it

module _ (limit : ℕ) (t : Task) (before : Buffers) where
  pub record CountsTurns (a : Answer) (k : ℕ) : Type 0 where
    pub adjustments : a.adjustments ≡ turns t.n (allowed t) t.budget adjusts k (start t.n (allowed t) (cost t))
    pub primed : a.primes ≡ turns t.n (allowed t) t.budget primes k (start t.n (allowed t) (cost t))
    pub augmentations : a.augmentations ≡ turns t.n (allowed t) t.budget augments k (start t.n (allowed t) (cost t))

  returned_counts : (m : Machine) (e : End) {o : Answer × Buffers} → returned t before m e ≡ o
      → (m.run.adjustments ≡ o.0.adjustments) × (m.run.primes ≡ o.0.primes) × (m.run.augmentations ≡ o.0.augmentations)
  unfolding returned given
  returned_counts m paired q = rw (← q) (refl, refl, refl)
  returned_counts m no_pairing q = rw (← q) (refl, refl, refl)
  returned_counts m unfinished q = rw (← q) (refl, refl, refl)

  pub counts_are_turns : {a : Answer} {after : Buffers} → verdict t limit before ≡ accepted → (o : Outcome limit t before a after) → CountsTurns a o.count
  unfolding start
  counts_are_turns {a} {after} v o =
      let r = returned_is t before o.count (sym (ap (judged t before o.count) v) ∙ o.exact) in
      let g = returned_counts (reached t o.count) r.end r.value in
      let c = counted t.n (allowed t) t.budget o.count (start t.n (allowed t) (cost t)) in
      record {
        adjustments = omega (arith, g.0, c.adjustments);
        primed = omega (arith, g.1, c.primed);
        augmentations = omega (arith, g.2, c.augmentations);
      }

  -- at 7 the budget is spent and a minimum is still there
  pub minimum_left : (k : ℕ) → (reached t k).run.next ≡ Unfinished → Spent t.n (allowed t) t.budget (reached t k)
  minimum_left k e = spent t.n (allowed t) t.budget _ (spent_start t.n (allowed t) t.budget (cost t)) k e

-- ---- what the outcome does not depend on

-- at a pairing every chosen column is allowed
chosen_allowed : (t : Task) → PairedAllowed t
chosen_allowed t k e i hi =
    let n = t.n in
    let h = kept n (allowed t) t.budget (λ m. Shape n m × Sound n (allowed t) m) (λ m h. (shape_step n (allowed t) t.budget m h.0, sound_step n (allowed t) t.budget m h.0 h.1)) _ (shape_start n (allowed t) (cost t), sound_start n (allowed t) (cost t)) k in
    let s = subst (λ x. Sound_at n (allowed t) x (reached t k)) e h.1.at_next in
    rw (table_at 0 (star_in_row n (reached t k).marks) n i hi) at ((E.paired n (allowed t) s.0 s.1).allowed i hi)

module _ {limit : ℕ} {t : Task} {before : Buffers} where
  -- two answers that meet the promise are equal, and so is every byte lent
  pub only_answer : {a a' : Answer} {after after' : Buffers} → Promise limit t before a after → Promise limit t before a' after' → (a ≡ a') × (after ≡ after')
  only_answer p q = A.only_answer p.exact q.exact

  -- a larger budget than one that settled gives the same
  pub larger_budget : {a : Answer} {after : Buffers} (budget : ℕ) → t.budget ≤ budget → a.number ≢ 7 → Promise limit t before a after
      → Promise limit (with_budget t budget) before a after
  larger_budget budget h ne p = promised (A.larger_budget budget h ne p.exact)

  -- costs in forbidden cells change nothing
  pub forbidden_costs : {a : Answer} {after : Buffers} (costs : List ℤ) → SameAllowed t costs → Promise limit t before a after → Promise limit (with_costs t costs) before a after
  forbidden_costs costs s p = promised (A.forbidden_costs costs s (chosen_allowed t) p.exact)

  -- what the written buffers held before changes nothing but where they are untouched
  pub prior_contents : {before' : Buffers} {a a' : Answer} {after after' : Buffers} → SameLengths before before' → Promise limit t before a after
      → Promise limit t before' a' after' → (a ≡ a') × EachSameOrUntouched before before' after after'
  prior_contents l p q = A.prior_contents l p.exact q.exact
