-- What the functions around the run need: what an end gives back, and the call from its verdict to its end.
use mathlib.Core.Path.{◌≡◌, refl, sym, ap, ◌∙◌}
use mathlib.Core.Logic.{◌≢◌, dite}
use mathlib.Core.Bool.{Bool, true, true≢false}
use mathlib.Core.List.{List}
use mathlib.Core.Option.{Option, some, map, map-eq-some_iff}
use Prim.Native.Nat.{ℕ, ◌*◌, ◌<◌}
use native.Mathlib.Decide.{dec_lt}
use native.Mathlib.Omega.{arith}
use lib.Dec.{T}
use lib.IntN.{ℤ, pos}
use lib.ListN.{get_or-eq_default}
use Rattle.lines.specs.Sets.{rest}
use Rattle.lines.specs.Square.{table}
use Rattle.lines.specs.Bounds.{Within}
use Rattle.lines.proofs.Squares.{table_at}
use Rattle.assignment.specs.Problem.{total}
use Rattle.steps.specs.declared.Answer.{Answer}
use Rattle.steps.specs.Lent.{Task, task, Buffers, buffers, most_cost, allows, cost_at}
use Rattle.steps.specs.Refusal as R
use Rattle.steps.specs.Steps as S
use Rattle.steps.specs.Steps.{Run, Machine, end_of, star_in_row, start, steps}
use Rattle.steps.specs.Counts.{over}
use Rattle.steps.specs.Outcome.{answer, given, written, returned, reached, judged, Outcome}
use Rattle.steps.specs.Promise.{Promise}
use Rattle.steps.specs.Bounds.{limit}
use Rattle.steps.proofs.Ends.{paired}
use Rattle.steps.proofs.Fresh.{going_start}
use Rattle.steps.proofs.Few.{most_steps, few_none, few_small}
use Rattle.steps.proofs.Limited.{limited_start}
use Rattle.steps.proofs.FreshLimits.{cost_within}
use Rattle.steps.proofs.Verdicts.{judgement_tells, AcceptedCall, accepted_is}
use Rattle.steps.proofs.Masks.{mask_flag}
use Rattle.steps.proofs.Promised.{promised}
use Rattle.rules.proofs.Rooms.{Room, room_of}
use Rattle.rules.specs.declared.refusal.Stop.{Stop}
use Rattle.rules.specs.declared.refusal.Stop.TheVariants.{Refused, DeadRow}
use Rattle.rules.specs.View.{view_stop}
use Rattle.ground.specs.declared.run.Next.{Next}
use Rattle.ground.specs.declared.run.Next.TheVariants.{Step3, Step4, Step5, Step6, Paired, NoPairing, Unfinished}
use Rattle.ground.specs.View.{view_next}
use Rattle.ground.specs.Square.{InWord, Flags}
use Rattle.ground.specs.Good.{ForStart, Frame, Kept, Good, Came}
use Rattle.answers.specs.Ends.{Inside, stop, Finishes}
use Rattle.ground.proofs.GoodLaws.{sound_at}

-- ---- what an end gives back

module _ (n : ℕ) (cost : ℕ → ℕ → ℤ) (r : Run) (marks before : List ℕ) where
  abbrev back : S.Next → Option (Answer × List ℕ)
  back x = map (given n cost r marks before) (end_of x)

  pub given_paired : {x : Next} {a : Answer} {z : ℤ} {columns : List ℕ} → x ≡ Paired → columns ≡ table (star_in_row n marks) n
      → z ≡ total cost n (table (star_in_row n marks) n) → a ≡ answer 0 0 z r 0 0 → back (view_next x) ≡ some (a, columns)
  unfolding given
  given_paired e c t q = rw (e, c, q, t)

  pub given_blocked : {x : Next} {a : Answer} {rows columns : ℕ} → x ≡ NoPairing → rows ≡ rest n r.rows → columns ≡ rest n r.columns
      → a ≡ answer 6 0 (pos 0) r rows columns → back (view_next x) ≡ some (a, before)
  unfolding given
  given_blocked e er ec q = rw (e, q, er, ec)

  -- an end that is neither
  pub given_spent : (x : Next) {a : Answer} → over (view_next x) ≡ true → x ≢ Paired → x ≢ NoPairing → a ≡ answer 7 0 (pos 0) r 0 0 → back (view_next x) ≡ some (a, before)
  unfolding given
  given_spent Unfinished o p q e = rw e
  given_spent Paired o p q e = absurd (p refl)
  given_spent NoPairing o p q e = absurd (q refl)
  given_spent Step3 o p q e = absurd (true≢false (sym o))
  given_spent Step4 o p q e = absurd (true≢false (sym o))
  given_spent (Step5 i j) o p q e = absurd (true≢false (sym o))
  given_spent Step6 o p q e = absurd (true≢false (sym o))

-- ---- the call, from an accepted input to an end

module _ (n : ℕ) (costs : List ℤ) (mask : List ℕ) (budget : ℕ) (b : Buffers) (v : R.verdict (task n costs mask budget) 64 b ≡ R.accepted) where
  abbrev t : Task
  t = task n costs mask budget

  fit : AcceptedCall 64 t b
  fit = accepted_is 64 t b v

  room : Room (n * n) n b
  room = room_of (n * n) n b fit.fit.room

  word : InWord n
  word = record { some = fit.fit.some; most = fit.fit.most }

  pub start_asks : ForStart n costs mask b.working b.marks b.row_prices b.column_prices
  start_asks = record {
    grid = record { word = word; mask_square = fit.fit.mask_length; working_square = room.working_cells };
    costs_square = fit.fit.costs_length;
    marks_square = room.marks_cells;
    row_lines = room.row_prices_lines;
    column_lines = room.column_prices_lines;
    rows = fit.rows;
  }

  within : (i j : ℕ) → i < n → j < n → T (allows n mask i j) → Within most_cost (cost_at n costs i j)
  within = cost_within 64 t b fit

  flagged : Flags mask
  flagged q = dite (dec_lt q (n * n))
      (λ h. mask_flag mask q (omega (arith, fit.fit.mask_length)) (fit.fit.flags q h))
      (λ h. rw (get_or-eq_default mask 0 {n = q} (omega (arith, fit.fit.mask_length))) (omega arith))

  pub frame : Frame n mask (cost_at n costs)
  frame = record {
    word = word;
    mask_square = fit.fit.mask_length;
    flags = flagged;
    range = within;
    row_bound = most_cost;
    column_bound = 0;
    fits = omega (arith, fit.fit.most);
    most = most_steps n;
    counts = few_small n (omega (arith, fit.fit.most));
  }

  pub frame_limit : limit n most_cost frame.row_bound frame.column_bound ≡ limit n most_cost most_cost 0
  unfolding frame
  frame_limit = refl

  pub kept_start : {m : Machine} → m ≡ start n (allows n mask) (cost_at n costs) → Kept frame budget m
  unfolding frame
  kept_start e =
      rw e record {
        spare = unfold start in omega arith;
        going = going_start n (allows n mask) (cost_at n costs);
        limited = limited_start n (allows n mask) (cost_at n costs) within fit.rows;
        few = unfold start in few_none n (allows n mask) _ refl refl refl;
      }

  pub good_start : {m : Machine} → m ≡ start n (allows n mask) (cost_at n costs) → Good n mask budget m
  good_start e = record { cost = cost_at n costs; frame = frame; kept = kept_start e }

  -- at a pairing each row has its star, on an allowed cell
  star_allowed : {m : Machine} → Good n mask budget m → m.run.next ≡ S.Paired → (i : ℕ) → i < n
      → (star_in_row n m.marks i < n) × T (allows n mask i (star_in_row n m.marks i))
  star_allowed {m} g e i hi =
      let s = sound_at g.kept S.Paired e in
      let p = paired n (allows n mask) s.0 s.1 in
      let q = table_at 0 (star_in_row n m.marks) n i hi in
      (rw q at (p.pairing.below i hi), rw q at (p.allowed i hi))

  pub finish_asks : {before m : Machine} → Came n mask budget before m → Finishes n costs m.run.next m.marks b.columns
  finish_asks c = record {
    word = word;
    costs_square = fit.fit.costs_length;
    marks_square = c.good.kept.going.shape.marks;
    lines = room.columns_lines;
    ended = c.ended;
    stars = λ e i hi. let a = star_allowed c.good e i hi in (a.0, within i _ hi a.0 a.1);
  }

  pub solved : {before m : Machine} {a : Answer} {columns : List ℕ} → before ≡ start n (allows n mask) (cost_at n costs) → Came n mask budget before m
      → map (given n (cost_at n costs) m.run m.marks b.columns) (end_of m.run.next) ≡ some (a, columns)
      → Outcome 64 t b a (buffers m.working m.marks columns m.row_prices m.column_prices)
  unfolding judged returned written
  solved {before} {m} {a} {columns} e c g =
      let x = (map-eq-some_iff (given n (cost_at n costs) m.run m.marks b.columns) (end_of m.run.next)).0 g in
      let there : m ≡ reached t c.count = c.exact ∙ ap (steps n (allows n mask) budget c.count) e in
      let given_back : map (returned t b m) (end_of m.run.next) ≡ some (a, buffers m.working m.marks columns m.row_prices m.column_prices) =
      (map-eq-some_iff (returned t b m) (end_of m.run.next)).1 (x.0, x.1, ap (λ (o : Answer × List ℕ). (o.0, written m o.1)) x.2) in
      record {
        count = c.count;
        exact = ap (judged t b c.count) v ∙ ap (λ (m : Machine). map (returned t b m) (end_of m.run.next)) (sym there) ∙ given_back;
      }

-- ---- the judgement stops the call

pub stop_is : (t : Task) (b : Buffers) (v : R.Verdict) → v ≢ R.accepted → judged t b 0 v ≡ some (stop t.n v, b)
unfolding judged stop
stop_is t b (R.refused number place) s = refl
stop_is t b (R.dead row) s = refl
stop_is t b R.accepted s = absurd (s refl)

stop_apart : (s : Stop) → view_stop s ≢ R.accepted
stop_apart (Refused refusal) e = let z : ◌≡◌ {A = ℕ} 0 1 = cc in absurd (omega arith)
stop_apart (DeadRow row) e = let z : ◌≡◌ {A = ℕ} 0 1 = cc in absurd (omega arith)

-- ---- the verdict of a call

-- a row that was found lies in the square
pub dead_inside : (n : ℕ) (costs : List ℤ) (mask : List ℕ) (others : Bool) (s : Stop) → view_stop s ≡ R.judgement 64 n costs mask others → Inside n (view_stop s)
dead_inside n costs mask others s e row f = let d = rw (sym e ∙ f) at (judgement_tells 64 n costs mask others) in (d.1, d.0.most)

module _ (n : ℕ) (costs : List ℤ) (mask : List ℕ) (budget : ℕ) (b : Buffers) where
  abbrev JudgedAs : R.Verdict → Type 0
  JudgedAs v = v ≡ R.judgement 64 n costs mask (R.room (n * n) n b)

  -- what the judgement found is the verdict of the call
  pub verdict_is : {v : R.Verdict} → JudgedAs v → R.verdict (task n costs mask budget) 64 b ≡ v
  unfolding R.verdict
  verdict_is e = sym e

  -- a refusal or a dead row
  pub stopped_promise : (s : Stop) → JudgedAs (view_stop s) → {a : Answer} → a ≡ stop n (view_stop s) → Promise 64 (task n costs mask budget) b a b
  stopped_promise s e q =
      promised (record { count = 0; exact = ap (judged (task n costs mask budget) b 0) (verdict_is e) ∙ rw q (stop_is (task n costs mask budget) b (view_stop s) (stop_apart s)) })
