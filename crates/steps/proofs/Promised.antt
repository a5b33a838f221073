-- Every call has an outcome, and every outcome keeps the whole promise.
use mathlib.Core.Path.{◌≡◌, refl, sym, ap, subst, ◌∙◌}
use mathlib.Core.Logic.{◌≢◌, inl, inr, ⊎_elim}
use mathlib.Core.Option.{some, some-injective}
use Prim.Native.Nat.{ℕ, ◌-◌, ◌*◌, ◌/◌, ◌<◌}
use native.Mathlib.Omega.{arith}
use lib.Dec.{T}
use lib.IntN.{pos}
use Rattle.lines.specs.Sets.{with, all}
use Rattle.assignment.proofs.Blocks.{block_impossible}
use Rattle.steps.specs.declared.Answer.{Answer}
use Rattle.steps.specs.Lent.{Task, Buffers, allowed, cost}
use Rattle.steps.specs.Refusal.{Verdict, refused, dead, accepted, verdict}
use Rattle.steps.specs.Steps.{Next, Paired, NoPairing, Unfinished, End, paired, no_pairing, unfinished, Machine}
use Rattle.steps.specs.Outcome.{answer, no_run, given, written, returned, reached, judged, Outcome}
use Rattle.steps.specs.Promise.{Fit, Promise}
use Rattle.steps.specs.Going.{Sound_at}
use Rattle.steps.proofs.Settles.{settles}
use Rattle.steps.proofs.Start.{sound_start}
use Rattle.steps.proofs.Shape.{shape_start}
use Rattle.steps.proofs.Pace.{Paced_at, few_rows, few_stars, room_left}
use Rattle.steps.proofs.Budget.{spent, spent_start}
use Rattle.steps.proofs.Fresh.{Fresh, fresh, first_stars, adjusts_before, primes_before, ceilings_within, ceilings_full, below_ceiling}
use Rattle.steps.proofs.Ends as E
use Rattle.steps.proofs.Ends.{paired_least, paired_adds_up, price_list, step6_block, dead_block}
use Rattle.steps.proofs.Verdicts.{is_refusal, not_answer, AcceptedCall, TellsCall, verdict_tells, accepted_is}
use Rattle.steps.proofs.Returned.{at_end, over_end, returned_is, is_returned}
use Rattle.steps.proofs.FreshLimits.{in_limits}

-- ---- every call has an outcome

module _ (limit : ℕ) (t : Task) (before : Buffers) where
  judged_there : (v : Verdict) → (k : ℕ) × (o : Answer × Buffers) × (judged t before k v ≡ some o)
  judged_there (refused number place) = unfold judged in (0, _, refl)
  judged_there (dead row) = unfold judged in (0, _, refl)
  judged_there accepted =
      let e = settles t.n (allowed t) t.budget _ (shape_start t.n (allowed t) (cost t)) (sound_start t.n (allowed t) (cost t)) in
      let x = over_end (reached t e.0).run.next e.1 in
      (e.0, _, is_returned t before e.0 (record { end = x.0; there = x.1; value = refl }))

  pub answered : (a : Answer) × (after : Buffers) × Outcome limit t before a after
  answered = let j = judged_there (verdict t limit before) in (j.1.0, j.1.1, record { count = j.0; exact = j.2 })

-- ---- and it keeps the promise

refused_not : (number place : ℕ) → refused number place ≢ accepted
refused_not number place e = let z : ◌≡◌ {A = ℕ} 0 1 = cc in omega arith

dead_not : (row : ℕ) → dead row ≢ accepted
dead_not row e = let z : ◌≡◌ {A = ℕ} 0 1 = cc in omega arith

module _ (limit : ℕ) (t : Task) (before : Buffers) (k : ℕ) where
  refused_keeps : (number place : ℕ) → T (is_refusal number) → (Fit limit t before → ⊥) → verdict t limit before ≡ refused number place
      → Promise limit t before (answer number place (pos 0) no_run 0 0) before
  unfolding judged
  refused_keeps number place refusal unfit e =
      let other = not_answer number refusal in
      record {
        exact = record { count = k; exact = ap (judged t before k) e };
        pairing = λ z. absurd (other.0 z);
        totalled = λ z. absurd (other.0 z);
        least = λ z. absurd (other.0 z);
        block = λ z. absurd (other.1 z);
        impossible = λ z. absurd (other.1 z);
        settled = record { passed = λ f. absurd (unfit f); ran = λ z. absurd (⊎_elim other.0 other.2 z) };
        complete = λ f. absurd (unfit f);
        ceilings = omega arith;
        unfinished = λ z. absurd (other.2 z);
        enough = λ h z. other.2 z;
        prices = λ v. absurd (refused_not number place (sym e ∙ v));
        adds_up = λ z. absurd (other.0 z);
        limits = λ v. absurd (refused_not number place (sym e ∙ v));
      }

  dead_keeps : (row : ℕ) → TellsCall limit t before (dead row) → verdict t limit before ≡ dead row
      → Promise limit t before (answer 6 0 (pos 0) no_run (with 0 row) (all t.n)) before
  unfolding judged
  dead_keeps row tells e =
      let shut = dead_block t.n (allowed t) row tells.1 tells.2 in
      record {
        exact = record { count = k; exact = ap (judged t before k) e };
        pairing = λ z. absurd (omega arith);
        totalled = λ z. absurd (omega arith);
        least = λ z. absurd (omega arith);
        block = λ z. shut;
        impossible = λ z. block_impossible shut;
        settled = record { passed = λ f. inr (inl refl); ran = λ z. absurd (⊎_elim (λ z. omega arith) (λ z. omega arith) z) };
        complete = λ f. ((λ q h. absurd (block_impossible shut q h)), λ none. inl refl);
        ceilings = omega arith;
        unfinished = λ z. absurd (omega arith);
        enough = λ h z. omega arith;
        prices = λ v. absurd (dead_not row (sym e ∙ v));
        adds_up = λ z. absurd (omega arith);
        limits = λ v. absurd (dead_not row (sym e ∙ v));
      }

  -- ---- after k steps of an accepted call

  module _ (v : verdict t limit before ≡ accepted) where
    abbrev n : ℕ
    n = t.n

    abbrev m : Machine
    m = reached t k

    fit : AcceptedCall limit t before
    fit = accepted_is limit t before v

    fresh_run : Fresh n (allowed t) (cost t) m
    fresh_run = fresh n (allowed t) (cost t) fit.fit.some fit.rows t.budget k

    exactly : (e : End) → m.run.next ≡ at_end e → let o = returned t before m e in Outcome limit t before o.0 o.1
    exactly e there = record { count = k; exact = ap (judged t before k) v ∙ is_returned t before k (record { end = e; there = there; value = refl }) }

    -- the invariants, by what is next
    sound_at : (x : Next) → m.run.next ≡ x → Sound_at n (allowed t) x m
    sound_at x e = subst (λ x. Sound_at n (allowed t) x m) e fresh_run.going.sound.at_next

    paced_at : (x : Next) → m.run.next ≡ x → Paced_at n (allowed t) (first_stars n (allowed t) (cost t)) adjusts_before primes_before x m
    paced_at x e = subst (λ x. Paced_at n (allowed t) (first_stars n (allowed t) (cost t)) adjusts_before primes_before x m) e fresh_run.paced.at_next

    -- a promise about what an end returns
    abbrev Keeps : End → Type 0
    Keeps e = let o = returned t before m e in Promise limit t before o.0 o.1

    paired_keeps : m.run.next ≡ Paired → Keeps paired
    unfolding returned given written
    paired_keeps e =
        let s = sound_at Paired e in
        record {
          exact = exactly paired e;
          pairing = λ z. E.paired n (allowed t) s.0 s.1;
          totalled = λ z. refl;
          least = λ z. paired_least n (allowed t) fresh_run.going.priced s.0 s.1;
          block = λ z. absurd (omega arith);
          impossible = λ z. absurd (omega arith);
          settled = record { passed = λ f. inl refl; ran = λ z. v };
          complete = λ f. ((λ q h. inl refl), λ none. absurd (none _ (E.paired n (allowed t) s.0 s.1)));
          ceilings = ceilings_full n (allowed t) (cost t) fit.fit.some fit.rows (rw s.1 at (paced_at Paired e));
          unfinished = λ z. absurd (omega arith);
          enough = λ h z. omega arith;
          prices = λ v. (price_list n (allowed t) fresh_run.going.priced, fresh_run.going.priced.none);
          limits = λ v. in_limits limit t before v k;
          adds_up = λ z. paired_adds_up n (allowed t) fresh_run.going.priced s.0 s.1;
        }

    blocked_keeps : m.run.next ≡ NoPairing → Keeps no_pairing
    unfolding returned given written
    blocked_keeps e =
        let s = sound_at NoPairing e in
        let few = few_rows n (allowed t) s.0 in
        let shut = step6_block n (allowed t) s.0 s.1 in
        record {
          exact = exactly no_pairing e;
          pairing = λ z. absurd (omega arith);
          totalled = λ z. absurd (omega arith);
          least = λ z. absurd (omega arith);
          block = λ z. shut;
          impossible = λ z. block_impossible shut;
          settled = record { passed = λ f. inr (inl refl); ran = λ z. v };
          complete = λ f. ((λ q h. absurd (block_impossible shut q h)), λ none. inl refl);
          ceilings = ceilings_within n (allowed t) (cost t) fit.fit.some fit.rows (paced_at NoPairing e) (few_stars n (allowed t) s.0) few (omega arith);
          unfinished = λ z. absurd (omega arith);
          enough = λ h z. omega arith;
          prices = λ v. (price_list n (allowed t) fresh_run.going.priced, fresh_run.going.priced.none);
          limits = λ v. in_limits limit t before v k;
          adds_up = λ z. absurd (omega arith);
        }

    unfinished_keeps : m.run.next ≡ Unfinished → Keeps unfinished
    unfolding returned given written
    unfinished_keeps e =
        let s = sound_at Unfinished e in
        let p = paced_at Unfinished e in
        let few = few_stars n (allowed t) s.0 in
        let rows = few_rows n (allowed t) s.0 in
        let all : m.run.adjustments ≡ t.budget = (spent n (allowed t) t.budget _ (spent_start n (allowed t) t.budget (cost t)) k e).all in
        let below : m.run.adjustments < n * (n - 1) / 2 =
        below_ceiling n (allowed t) (cost t) fit.fit.some fit.rows p few (room_left n (allowed t) s.0 s.1 p.seen) in
        record {
          exact = exactly unfinished e;
          pairing = λ z. absurd (omega arith);
          totalled = λ z. absurd (omega arith);
          least = λ z. absurd (omega arith);
          block = λ z. absurd (omega arith);
          impossible = λ z. absurd (omega arith);
          settled = record { passed = λ f. inr (inr refl); ran = λ z. v };
          complete = λ f. ((λ q h. inr refl), λ none. inr refl);
          ceilings = ceilings_within n (allowed t) (cost t) fit.fit.some fit.rows p few rows (omega arith);
          unfinished = λ z. (all, omega arith);
          enough = λ h z. omega arith;
          prices = λ v. (price_list n (allowed t) fresh_run.going.priced, fresh_run.going.priced.none);
          limits = λ v. in_limits limit t before v k;
          adds_up = λ z. absurd (omega arith);
        }

    returned_keeps : (e : End) → m.run.next ≡ at_end e → Keeps e
    returned_keeps paired there = paired_keeps there
    returned_keeps no_pairing there = blocked_keeps there
    returned_keeps unfinished there = unfinished_keeps there

  -- what is returned is what was meant
  same : {x o : Answer × Buffers} → x ≡ o → Promise limit t before x.0 x.1 → Promise limit t before o.0 o.1
  same e p = rw (← e) p

  judged_keeps : (v : Verdict) → verdict t limit before ≡ v → TellsCall limit t before v → (o : Answer × Buffers) → judged t before k v ≡ some o → Promise limit t before o.0 o.1
  judged_keeps (refused number place) e tells o g = unfold judged in same (some-injective _ o g) (refused_keeps number place tells.0 tells.1 e)
  judged_keeps (dead row) e tells o g = unfold judged in same (some-injective _ o g) (dead_keeps row tells e)
  judged_keeps accepted e tells o g = let r = returned_is t before k g in same r.value (returned_keeps e r.end r.there)

-- every outcome keeps the promise
pub promised : {limit : ℕ} {t : Task} {before : Buffers} {a : Answer} {after : Buffers} → Outcome limit t before a after → Promise limit t before a after
promised {limit} {t} {before} {a} {after} o =
    judged_keeps limit t before o.count (verdict t limit before) refl (verdict_tells limit t before) (a, after) o.exact
