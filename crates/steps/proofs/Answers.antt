-- Theorems on the outcome of a call: there is only one, and what it does not depend on.
use mathlib.Core.Path.{◌≡◌, refl, sym, ap, ◌∙◌}
use mathlib.Core.Logic.{◌≢◌, dite}
use mathlib.Core.List.{List}
use mathlib.Core.Option.{some, some-injective}
use Prim.Native.Nat.{ℕ, ◌+◌, ◌*◌, ◌≤◌, ◌<◌}
use native.Mathlib.Decide.{dec_lt}
use native.Mathlib.Omega.{arith}
use lib.Dec.{T}
use lib.IntN.{ℤ, pos}
use lib.ListN.{length, get_or-eq_default}
use Rattle.lines.specs.First.{any}
use Rattle.lines.specs.Square.{table}
use Rattle.lines.proofs.Squares.{place_lt, table_at}
use Rattle.lines.proofs.Sumsℤ.{sumℤ_ext}
use Rattle.assignment.specs.Problem.{total}
use Rattle.steps.specs.declared.Answer.{Answer}
use Rattle.steps.specs.Lent.{Task, Buffers, allowed, cost, allows, cost_at}
use Rattle.steps.specs.Refusal.{Verdict, refused, dead, accepted, verdict}
use Rattle.steps.specs.Steps.{Paired, End, paired, no_pairing, unfinished, end_of, Machine, star_in_row, start, steps}
use Rattle.steps.specs.Outcome.{answer, given, written, returned, reached, judged, Outcome}
use Rattle.steps.proofs.Runs.{one_end}
use Rattle.steps.proofs.Returned.{at_end, end_there, Returned, returned_is, is_returned, returned_over}
use Rattle.steps.proofs.Budget.{larger}
use Rattle.steps.proofs.Starts.{start_same}
use Rattle.steps.proofs.Verdicts.{SameLengths, verdict_contents, with_budget, with_costs, SameAllowed, verdict_costs, accepted_is}

-- two calls that return something have come to the same machine
one_machine : (t : Task) (before before' : Buffers) (j k : ℕ) {o p : Answer × Buffers} → Returned t before j o → Returned t before' k p → reached t j ≡ reached t k
one_machine t before before' j k x y = one_end t.n (allowed t) t.budget j k _ (returned_over t before j x) (returned_over t before' k y)

-- and stand at the same end
one_end_of : {m m' : Machine} {e f : End} → m ≡ m' → m.run.next ≡ at_end e → m'.run.next ≡ at_end f → e ≡ f
one_end_of {m} {m'} {e} {f} q x y =
    some-injective e f (sym (end_there e) ∙ ap end_of (sym x ∙ ap (λ (m : Machine). m.run.next) q ∙ y) ∙ end_there f)

-- ---- one answer

judged_one : (t : Task) (before : Buffers) (v : Verdict) (j k : ℕ) (o p : Answer × Buffers) → judged t before j v ≡ some o → judged t before k v ≡ some p → o ≡ p
judged_one t before (refused number place) j k o p e f = unfold judged in some-injective o p (sym e ∙ f)
judged_one t before (dead row) j k o p e f = unfold judged in some-injective o p (sym e ∙ f)
judged_one t before accepted j k o p e f =
    let x = returned_is t before j e in
    let y = returned_is t before k f in
    let q = one_machine t before before j k x y in
    sym x.value ∙ ap (λ (m : Machine). returned t before m x.end) q ∙ ap (returned t before (reached t k)) (one_end_of q x.there y.there) ∙ y.value

pub only_answer : {limit : ℕ} {t : Task} {before : Buffers} {a a' : Answer} {after after' : Buffers} → Outcome limit t before a after
    → Outcome limit t before a' after' → (a ≡ a') × (after ≡ after')
only_answer {limit} {t} {before} {a} {a'} {after} {after'} x y =
    let e = judged_one t before (verdict t limit before) x.count y.count (a, after) (a', after') x.exact y.exact in
    (ap (λ (o : Answer × Buffers). o.0) e, ap (λ (o : Answer × Buffers). o.1) e)

-- ---- prior contents of the buffers

-- two calls leave the same in a buffer, or neither changes it
pub data SameOrUntouched {A : Type 0} (before before' after after' : List A) : Type 0 where
  same : after ≡ after' → SameOrUntouched before before' after after'
  untouched : after ≡ before → after' ≡ before' → SameOrUntouched before before' after after'

pub record EachSameOrUntouched (before before' after after' : Buffers) : Type 0 where
  pub working : SameOrUntouched before.working before'.working after.working after'.working
  pub marks : SameOrUntouched before.marks before'.marks after.marks after'.marks
  pub columns : SameOrUntouched before.columns before'.columns after.columns after'.columns
  pub row_prices : SameOrUntouched before.row_prices before'.row_prices after.row_prices after'.row_prices
  pub column_prices : SameOrUntouched before.column_prices before'.column_prices after.column_prices after'.column_prices

module _ (t : Task) (before before' : Buffers) (a a' : Answer) (after after' : Buffers) where
  both_given : (x : Answer) (w w' : Buffers) → EachSameOrUntouched before before' w w' → ◌≡◌ {A = Answer × Buffers} (x, w) (a, after)
      → ◌≡◌ {A = Answer × Buffers} (x, w') (a', after') → (a ≡ a') × EachSameOrUntouched before before' after after'
  both_given x w w' s p q = (
    sym (ap (λ (o : Answer × Buffers). o.0) p) ∙ ap (λ (o : Answer × Buffers). o.0) q,
    rw (← ap (λ (o : Answer × Buffers). o.1) p, ← ap (λ (o : Answer × Buffers). o.1) q) s,
  )

  all_untouched : EachSameOrUntouched before before' before before'
  all_untouched = record {
    working = untouched refl refl;
    marks = untouched refl refl;
    columns = untouched refl refl;
    row_prices = untouched refl refl;
    column_prices = untouched refl refl;
  }

  others_same : (m : Machine) → EachSameOrUntouched before before' (written m before.columns) (written m before'.columns)
  unfolding written
  others_same m = record { working = same refl; marks = same refl; columns = untouched refl refl; row_prices = same refl; column_prices = same refl }

  -- the same machine, at the same end
  returned_same : (m : Machine) (e : End) → returned t before m e ≡ (a, after) → returned t before' m e ≡ (a', after')
      → (a ≡ a') × EachSameOrUntouched before before' after after'
  unfolding returned given written
  returned_same m paired e f =
      both_given _ _ _ (record { working = same refl; marks = same refl; columns = same refl; row_prices = same refl; column_prices = same refl }) e f
  returned_same m no_pairing e f = both_given _ _ _ (others_same m) e f
  returned_same m unfinished e f = both_given _ _ _ (others_same m) e f

  judged_same : (v : Verdict) (j k : ℕ) → judged t before j v ≡ some (a, after) → judged t before' k v ≡ some (a', after')
      → (a ≡ a') × EachSameOrUntouched before before' after after'
  judged_same (refused number place) j k e f = unfold judged in both_given _ _ _ all_untouched (some-injective _ _ e) (some-injective _ _ f)
  judged_same (dead row) j k e f = unfold judged in both_given _ _ _ all_untouched (some-injective _ _ e) (some-injective _ _ f)
  judged_same accepted j k e f =
      let x = returned_is t before j e in
      let y = returned_is t before' k f in
      let q = one_machine t before before' j k x y in
      returned_same (reached t j) x.end x.value
      (ap (λ (m : Machine). returned t before' m x.end) q ∙ ap (returned t before' (reached t k)) (one_end_of q x.there y.there) ∙ y.value)

pub prior_contents : {limit : ℕ} {t : Task} {before before' : Buffers} {a a' : Answer} {after after' : Buffers} → SameLengths before before'
    → Outcome limit t before a after → Outcome limit t before' a' after' → (a ≡ a') × EachSameOrUntouched before before' after after'
prior_contents {limit} {t} {before} {before'} {a} {a'} {after} {after'} s x y =
    judged_same t before before' a a' after after' (verdict t limit before) x.count y.count x.exact
    (rw (← verdict_contents limit t before before' s) at y.exact)

-- ---- a larger budget

seven : (t : Task) (before : Buffers) (m : Machine) {e : End} → e ≡ unfinished → (returned t before m e).0.number ≡ 7
unfolding returned given
seven t before m u = rw u

whatever_budget : (t : Task) (before : Buffers) (b' : ℕ) (m : Machine) (e : End) → returned (with_budget t b') before m e ≡ returned t before m e
unfolding returned
whatever_budget t before b' m e = refl

judged_larger : (t : Task) (before : Buffers) (b' : ℕ) (v : Verdict) (k : ℕ) (o : Answer × Buffers) → t.budget ≤ b' → o.0.number ≢ 7
    → judged t before k v ≡ some o → judged (with_budget t b') before k v ≡ some o
judged_larger t before b' (refused number place) k o h ne e = unfold judged in e
judged_larger t before b' (dead row) k o h ne e = unfold judged in e
judged_larger t before b' accepted k o h ne e =
    let x = returned_is t before k e in
    let other : x.end ≢ unfinished = λ u. ne (sym (ap (λ (o : Answer × Buffers). o.0.number) x.value) ∙ seven t before (reached t k) u) in
    let q = larger t.n (allowed t) t.budget b' h k (start t.n (allowed t) (cost t)) (unfold start in omega arith)
    (λ u. other (one_end_of {m = reached t k} refl x.there u)) in
    is_returned (with_budget t b') before k (record {
      end = x.end;
      there = ap (λ (m : Machine). m.run.next) q ∙ x.there;
      value = whatever_budget t before b' _ x.end ∙ ap (λ (m : Machine). returned t before m x.end) q ∙ x.value;
    })

pub larger_budget : {limit : ℕ} {t : Task} {before : Buffers} {a : Answer} {after : Buffers} (b' : ℕ) → t.budget ≤ b' → a.number ≢ 7
    → Outcome limit t before a after → Outcome limit (with_budget t b') before a after
unfolding verdict
larger_budget {limit} {t} {before} {a} {after} b' h ne x = record {
  count = x.count;
  exact = judged_larger t before b' (verdict t limit before) x.count (a, after) h ne x.exact;
}

-- ---- costs of forbidden cells

-- at a pairing, the column of every row is allowed
abbrev pub PairedAllowed : Task → Type 0
PairedAllowed t = (k : ℕ) → (reached t k).run.next ≡ Paired → (i : ℕ) → i < t.n → T (allowed t i (star_in_row t.n (reached t k).marks i))

module _ (t : Task) (before : Buffers) (costs' : List ℤ) (s : SameAllowed t costs') where
  -- past the end of the costs, 0
  cost_same : length t.costs ≡ t.n * t.n → (i j : ℕ) → T (allowed t i j) → cost t i j ≡ cost (with_costs t costs') i j
  unfolding allows cost_at
  cost_same size i j u =
      dite (dec_lt (i * t.n + j) (t.n * t.n)) (λ h. s.value (i * t.n + j) h u)
      (λ h. get_or-eq_default t.costs (pos 0) (omega arith) ∙ sym (get_or-eq_default costs' (pos 0) (omega (arith, s.size))))

  total_same : (m : Machine) → length t.costs ≡ t.n * t.n → ((i : ℕ) → i < t.n → T (allowed t i (star_in_row t.n m.marks i)))
      → let columns = table (star_in_row t.n m.marks) t.n in total (cost (with_costs t costs')) t.n columns ≡ total (cost t) t.n columns
  unfolding total
  total_same m size h =
      sumℤ_ext _ _ t.n (λ i l. rw (table_at 0 (star_in_row t.n m.marks) t.n i l) (sym (cost_same size i (star_in_row t.n m.marks i) (h i l))))

  returned_costs : (m : Machine) (e : End) → length t.costs ≡ t.n * t.n
      → (e ≡ paired → (i : ℕ) → i < t.n → T (allowed t i (star_in_row t.n m.marks i))) → returned (with_costs t costs') before m e ≡ returned t before m e
  unfolding returned given
  returned_costs m paired size h =
      let columns = table (star_in_row t.n m.marks) t.n in
      ap {B = Answer × Buffers} (λ z. (answer 0 0 z m.run 0 0, written m columns)) (total_same m size (h refl))
  returned_costs m no_pairing size h = refl
  returned_costs m unfinished size h = refl

  reached_costs : (k : ℕ) → ((i : ℕ) → i < t.n → T (any (allowed t i) t.n)) → reached (with_costs t costs') k ≡ reached t k
  unfolding allows cost_at
  reached_costs k rows =
      ap (steps t.n (allowed t) t.budget k)
      (sym (start_same t.n (allowed t) (cost t) (cost (with_costs t costs')) rows (λ i j hi hj u. s.value (i * t.n + j) (place_lt t.n i j hi hj) u)))

  judged_costs : (limit : ℕ) (v : Verdict) → verdict t limit before ≡ v → PairedAllowed t → (k : ℕ) {o : Answer × Buffers}
      → judged t before k v ≡ some o → judged (with_costs t costs') before k v ≡ some o
  judged_costs limit (refused number place) e h k g = unfold judged in g
  judged_costs limit (dead row) e h k g = unfold judged in g
  judged_costs limit accepted e h k g =
      let a = accepted_is limit t before e in
      let q = reached_costs k a.rows in
      let x = returned_is t before k g in
      is_returned (with_costs t costs') before k (record {
        end = x.end;
        there = ap (λ (m : Machine). m.run.next) q ∙ x.there;
        value =
            ap (λ (m : Machine). returned (with_costs t costs') before m x.end) q
            ∙ returned_costs (reached t k) x.end a.fit.costs_length (λ u. h k (x.there ∙ ap at_end u))
            ∙ x.value;
      })

pub forbidden_costs : {limit : ℕ} {t : Task} {before : Buffers} {a : Answer} {after : Buffers} (costs' : List ℤ) → SameAllowed t costs' → PairedAllowed t
    → Outcome limit t before a after → Outcome limit (with_costs t costs') before a after
forbidden_costs {limit} {t} {before} {a} {after} costs' s h x = record {
  count = x.count;
  exact = rw (verdict_costs limit t before costs' s) (judged_costs t before costs' s limit (verdict t limit before) refl h x.count x.exact);
}
