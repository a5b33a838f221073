-- What a verdict tells, and what it does not depend on: the buffers' contents, the budget, the costs of forbidden cells.
use mathlib.Core.Path.{◌≡◌, sym, ap}
use mathlib.Core.Logic.{◌≢◌}
use mathlib.Core.Bool.{Bool, not, ◌&&◌}
use mathlib.Core.List.{List}
use Prim.Native.Nat.{ℕ, ◌*◌, ◌<◌}
use native.Mathlib.Omega.{arith}
use borrow.Author.Tests.{eq-eqb}
use lib.Dec.{T, T_not, not_T, ltb, ltb→lt, eqb, eqb→eq, nltb→le}
use lib.IntN.{ℤ, pos}
use lib.ListN.{length, get_or}
use Rattle.lines.specs.First.{any}
use Rattle.lines.proofs.Tests.{cond_ind, and_same, T_yes, and_left, and_right, eqb_yes, eqb_no}
use Rattle.lines.proofs.Firsts.{first_is, any_is, any_no, first_ext}
use Rattle.steps.specs.Lent.{Task, task, Buffers, allows}
use Rattle.steps.specs.Refusal.{Verdict, refused, dead, accepted, out_of_range, room, bad_mask, bad_cost, dead_row, rules, Admitted, by_rows, judgement, verdict}
use Rattle.steps.proofs.RuleLaws.{Every, all, ◌⨾◌, Clear, ruled}

-- ---- what a verdict tells

-- a refusal's number is none of the answers'
abbrev pub is_refusal : ℕ → Bool
is_refusal number = not (eqb number 0) && not (eqb number 6) && not (eqb number 7)

pub not_answer : (number : ℕ) → T (is_refusal number) → (number ≢ 0) × (number ≢ 6) × (number ≢ 7)
not_answer number t =
    let low = and_left (not (eqb number 0) && not (eqb number 6)) _ t in (
      λ e. T_not (eqb number 0) (and_left (not (eqb number 0)) _ low) (eqb_yes number 0 e),
      λ e. T_not (eqb number 6) (and_right (not (eqb number 0)) _ low) (eqb_yes number 6 e),
      λ e. T_not (eqb number 7) (and_right (not (eqb number 0) && not (eqb number 6)) _ t) (eqb_yes number 7 e),
    )

none_of : (b : ℕ → Bool) (n : ℕ) → ((q : ℕ) → q < n → T (not (b q))) → T (not (any b n))
none_of b n f = not_T (any b n) (λ z. let q = any_is b n z in T_not (b q.0) (f q.0 q.1) q.2)

module _ (limit n : ℕ) (costs : List ℤ) (mask : List ℕ) (others : Bool) where
  abbrev right_lengths : Bool
  right_lengths = eqb (length costs) (n * n) && eqb (length mask) (n * n) && others

  -- rule by rule: its number, and that what passed does not meet it
  each_rule : Every (λ r. T (is_refusal r.number) × (Admitted limit n costs mask others → T (not r.applies))) (rules limit n costs mask others)
  unfolding rules
  each_rule =
      (tt, λ p. eqb_no n 0 (positive p.some))
      ⨾ (tt, λ p. not_T (ltb limit n) (λ t. omega (arith, ltb→lt limit n t, p.most)))
      ⨾ (tt, λ p. not_T (not right_lengths) (λ t. T_not right_lengths t (lengths p)))
      ⨾ (tt, λ p. none_of (bad_mask mask) (n * n) p.flags)
      ⨾ (tt, λ p. none_of (bad_cost costs mask) (n * n) p.range)
      ⨾ all
    where
      positive : 0 < n → n ≢ 0
      positive h e = omega arith

      lengths : Admitted limit n costs mask others → T right_lengths
      lengths p = rw (eq-eqb _ _ p.costs_length, eq-eqb _ _ p.mask_length) p.room

  pub clear_admitted : Clear (rules limit n costs mask others) → Admitted limit n costs mask others
  unfolding rules
  clear_admitted (c1 ⨾ c2 ⨾ c3 ⨾ c4 ⨾ c5 ⨾ all) =
      let sizes = T_yes right_lengths (λ u. T_not (not right_lengths) c3 u) in
      let pair = and_left (eqb (length costs) (n * n) && eqb (length mask) (n * n)) others sizes in
      record {
        some = positive (λ z. T_not (eqb n 0) c1 (eqb_yes n 0 z));
        most = nltb→le limit n c2;
        costs_length = eqb→eq _ _ (and_left (eqb (length costs) (n * n)) _ pair);
        mask_length = eqb→eq _ _ (and_right (eqb (length costs) (n * n)) _ pair);
        room = and_right (eqb (length costs) (n * n) && eqb (length mask) (n * n)) others sizes;
        flags = any_no (bad_mask mask) (n * n) c4;
        range = any_no (bad_cost costs mask) (n * n) c5;
      }
    where
      positive : n ≢ 0 → 0 < n
      positive ne = omega arith

  -- neither refused nor answered at once
  pub record Accepted : Type 0 where
    pub fit : Admitted limit n costs mask others
    pub rows : (i : ℕ) → i < n → T (any (allows n mask i) n)

  abbrev pub Tells : Verdict → Type 0
  Tells (refused number place) = T (is_refusal number) × (Admitted limit n costs mask others → ⊥)
  Tells (dead row) = Admitted limit n costs mask others × (row < n) × T (not (any (allows n mask row) n))
  Tells accepted = Accepted

  pub judgement_tells : Tells (judgement limit n costs mask others)
  unfolding judgement by_rows dead_row any
  judgement_tells =
      ruled refused Tells _ (by_rows n mask) (λ r q t. (q.0, λ p. T_not r.applies (q.1 p) t)) (rules limit n costs mask others) each_rule
      (λ clear.
      let fit = clear_admitted clear in
      cond_ind Tells (any (dead_row n mask) n) _ _
      (λ t. let h = ltb→lt _ n t in (fit, h, (first_is (dead_row n mask) n).hit h))
      (λ t. record {
        fit = fit;
        rows = λ i h. T_yes (any (allows n mask i) n) (λ u. T_not (dead_row n mask i) (any_no (dead_row n mask) n t i h) u);
      }))

-- ---- the same of a call

module _ (limit : ℕ) (t : Task) (b : Buffers) where
  abbrev pub AcceptedCall : Type 0
  AcceptedCall = Accepted limit t.n t.costs t.mask (room (t.n * t.n) t.n b)

  abbrev pub TellsCall : Verdict → Type 0
  TellsCall = Tells limit t.n t.costs t.mask (room (t.n * t.n) t.n b)

  pub verdict_tells : TellsCall (verdict t limit b)
  unfolding verdict
  verdict_tells = judgement_tells limit t.n t.costs t.mask (room (t.n * t.n) t.n b)

  pub accepted_is : verdict t limit b ≡ accepted → AcceptedCall
  accepted_is e = rw e at verdict_tells

-- ---- the same verdict: other contents

pub record SameLengths (b b' : Buffers) : Type 0 where
  pub working : length b.working ≡ length b'.working
  pub marks : length b.marks ≡ length b'.marks
  pub columns : length b.columns ≡ length b'.columns
  pub row_prices : length b.row_prices ≡ length b'.row_prices
  pub column_prices : length b.column_prices ≡ length b'.column_prices

pub verdict_contents : (limit : ℕ) (t : Task) (b b' : Buffers) → SameLengths b b' → verdict t limit b ≡ verdict t limit b'
unfolding verdict
verdict_contents limit t b b' s = rw (s.working, s.marks, s.columns, s.row_prices, s.column_prices)

-- ---- another budget: no rule looks at it

abbrev pub with_budget : Task → ℕ → Task
with_budget t b = task t.n t.costs t.mask b

-- ---- other costs in forbidden cells

abbrev pub with_costs : Task → List ℤ → Task
with_costs t costs = task t.n costs t.mask t.budget

-- as many costs, and the same wherever the cell is allowed
pub record SameAllowed (t : Task) (costs' : List ℤ) : Type 0 where
  pub size : length t.costs ≡ length costs'
  pub value : (q : ℕ) → q < t.n * t.n → T (eqb (get_or t.mask q 1) 1) → get_or t.costs q (pos 0) ≡ get_or costs' q (pos 0)

bad_cost_same : (t : Task) (costs' : List ℤ) → SameAllowed t costs' → (q : ℕ) → q < t.n * t.n → bad_cost costs' t.mask q ≡ bad_cost t.costs t.mask q
unfolding bad_cost
bad_cost_same t costs' s q h = and_same (eqb (get_or t.mask q 1) 1) _ _ (λ u. ap out_of_range (sym (s.value q h u)))

pub verdict_costs : (limit : ℕ) (t : Task) (b : Buffers) (costs' : List ℤ) → SameAllowed t costs' → verdict (with_costs t costs') limit b ≡ verdict t limit b
unfolding verdict judgement rules any
verdict_costs limit t b costs' s = rw (first_ext (bad_cost costs' t.mask) (bad_cost t.costs t.mask) (t.n * t.n) (bad_cost_same t costs' s), ← s.size)
