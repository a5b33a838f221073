-- The judgement, rule by rule: a rule that applies gives its refusal, and past one that does not the rest of the list decides.
use mathlib.Core.Path.{◌≡◌, refl, sym, ◌∙◌}
use mathlib.Core.Logic.{◌≢◌}
use mathlib.Core.Bool.{Bool, true, false, not, ◌&&◌, ◌||◌}
use mathlib.Core.List.{List, [], ◌∷◌}
use Prim.Native.Nat.{ℕ, ◌+◌, ◌*◌, ◌≤◌, ◌<◌}
use native.Mathlib.Omega.{arith}
use borrow.Author.Tests.{le-ltb, lt-ltb, eq-eqb, ne_eqb, eqb-true, eqb-false, ltb-true, ltb-false}
use lib.Dec.{T, eqb, eqb→eq, ltb}
use lib.IntN.{ℤ}
use lib.ListN.{length}
use Rattle.std.specs.Prelude.{Some, None, Result, IsErrAnd}
use Rattle.std.proofs.lemmas.Result.{err_from_is_err_and}
use Rattle.lines.specs.First.{first, any, found}
use Rattle.lines.proofs.Tests.{by_cases, and_left, and_right}
use Rattle.std.proofs.Math.Bool.{or_comm}
use Rattle.lines.proofs.Loops.{any_more}
use Rattle.lines.proofs.Firsts.{found_none, some_found, none_found}
use Rattle.steps.specs.Rules.{Rule, rule, cell_rule, by_rules}
use Rattle.steps.specs.Refusal.{Verdict, refused, dead, accepted, bad_mask, bad_cost, dead_row, rules, by_rows, judgement}
use Rattle.steps.proofs.RuleLaws.{applies, passes}
use Rattle.rules.specs.declared.refusal.Refusal.{Refusal}
use Rattle.rules.specs.declared.refusal.Stop.{Stop}
use Rattle.rules.specs.declared.refusal.Stop.TheVariants.{Refused}
use Rattle.rules.specs.View.{view_refusal, view_verdict, alone}

-- ---- one rule

accepted_apart : {number place : ℕ} → accepted ≡ refused number place → ⊥
accepted_apart e = cc

module _ (r : Rule) where
  pub says : r.applies ≡ true → refused r.number r.place ≡ alone r
  says e = sym (applies refused r [] accepted e)

  pub silent : r.applies ≡ false → accepted ≡ alone r
  unfolding by_rules
  silent e = sym (passes refused r [] accepted e)

  -- the code lets it pass, or refuses by it
  pub passed : accepted ≡ alone r → r.applies ≡ false
  passed e = by_cases r.applies (λ y. absurd (accepted_apart (e ∙ sym (says y)))) (λ y. y)

  pub refuses : {number place : ℕ} → refused number place ≡ alone r → (rs : List Rule) (otherwise : Verdict) → by_rules refused (r ∷ rs) otherwise ≡ refused number place
  refuses e rs otherwise = by_cases r.applies (λ y. applies refused r rs otherwise y ∙ says y ∙ sym e) (λ y. absurd (accepted_apart (silent y ∙ sym e)))

-- a rule that looks through cells, by the lowest bad one
module _ (number : ℕ) (bad : ℕ → Bool) (n : ℕ) where
  pub cell_found : {k : ℕ} → Some k ≡ found n (first bad n) → refused number k ≡ alone (cell_rule number bad n)
  unfolding any
  cell_found e = let f = some_found n (first bad n) _ (sym e) in rw (← f.0) (says (cell_rule number bad n) (lt-ltb _ n (rw (← f.0) at f.1)))

  pub cells_clear : None ≡ found n (first bad n) → accepted ≡ alone (cell_rule number bad n)
  unfolding any
  cells_clear e = silent (cell_rule number bad n) (le-ltb _ n (none_found n (first bad n) (sym e)))

-- cells asked one after another, whether one is bad
module _ (bad : ℕ → Bool) where
  pub none_asked : false ≡ any bad 0
  unfolding any
  none_asked = sym (le-ltb (first bad 0) 0 (omega arith))

  pub asked_more : (i : ℕ) {before here : Bool} → before ≡ any bad i → here ≡ bad i → (before || here) ≡ any bad (i + 1)
  asked_more i e h = rw (e, h) (or_comm (any bad i) (bad i) ∙ sym (any_more bad i))

  pub none_there : (n : ℕ) → any bad n ≡ false → None ≡ found n (first bad n)
  unfolding any
  none_there n e = sym (found_none n (first bad n) (ltb-false (first bad n) n e))

-- the code's refusal, as `?` hands it on
pub refused_by : (v : Result Unit Stop) (r : Refusal) → IsErrAnd v (λ s. s ≡ Refused r) → {w : Verdict} → w ≡ view_refusal r → view_verdict v ≡ w
refused_by v r h e = let p = err_from_is_err_and v h in rw (p.1, p.2) (sym e)

-- ---- the list of rules

module _ (limit n : ℕ) (costs : List ℤ) (mask : List ℕ) (others : Bool) where
  abbrev pub right_lengths : Bool
  right_lengths = eqb (length costs) (n * n) && eqb (length mask) (n * n) && others

  pub record RightLengths : Type 0 where
    pub costs_length : length costs ≡ n * n
    pub mask_length : length mask ≡ n * n

  pub lengths_are : right_lengths ≡ true → RightLengths
  lengths_are e =
      let t : T right_lengths = rw e tt in
      let both = and_left (eqb (length costs) (n * n) && eqb (length mask) (n * n)) others t in
      record {
        costs_length = eqb→eq (length costs) (n * n) (and_left (eqb (length costs) (n * n)) _ both);
        mask_length = eqb→eq (length mask) (n * n) (and_right (eqb (length costs) (n * n)) _ both);
      }

  pub lengths_passed : accepted ≡ alone (rule 3 (not right_lengths)) → RightLengths
  lengths_passed e = lengths_are (by_cases right_lengths (λ y. y) (λ y. absurd (accepted_apart (e ∙ sym (says (rule 3 (not right_lengths)) (rw y))))))

  -- the verdict from a rule on
  abbrev by : List Rule → Verdict
  by rs = by_rules refused rs (by_rows n mask)

  abbrev rules_5 : List Rule
  rules_5 = cell_rule 5 (bad_cost costs mask) (n * n) ∷ []

  abbrev rules_4 : List Rule
  rules_4 = cell_rule 4 (bad_mask mask) (n * n) ∷ rules_5

  abbrev rules_3 : List Rule
  rules_3 = rule 3 (not right_lengths) ∷ rules_4

  abbrev rules_2 : List Rule
  rules_2 = rule 2 (ltb limit n) ∷ rules_3

  abbrev rules_1 : List Rule
  rules_1 = rule 1 (eqb n 0) ∷ rules_2

  abbrev Judges : Verdict → Type 0
  Judges v = judgement limit n costs mask others ≡ v

  -- what has been found so far: the rules from the second on decide, and so on; at last the rows
  abbrev pub From_2 : Type 0
  From_2 = Judges (by rules_2)

  abbrev pub From_3 : Type 0
  From_3 = Judges (by rules_3)

  abbrev pub From_4 : Type 0
  From_4 = Judges (by rules_4)

  abbrev pub From_5 : Type 0
  From_5 = Judges (by rules_5)

  abbrev pub From_rows : Type 0
  From_rows = Judges (by [])

  pub rule_1 : n ≡ 0 → Judges (refused 1 0)
  unfolding judgement rules
  rule_1 e = applies refused _ rules_2 _ (eq-eqb n 0 e)

  pub past_1 : n ≢ 0 → From_2
  unfolding judgement rules
  past_1 ne = passes refused _ rules_2 _ (ne_eqb n 0 ne)

  pub rule_2 : From_2 → limit < n → Judges (refused 2 0)
  rule_2 e h = e ∙ applies refused _ rules_3 _ (lt-ltb limit n h)

  pub past_2 : From_2 → n ≤ limit → From_3
  past_2 e h = e ∙ passes refused _ rules_3 _ (le-ltb limit n h)

  pub rule_3 : From_3 → right_lengths ≡ false → Judges (refused 3 0)
  rule_3 e w = e ∙ applies refused _ rules_4 _ (rw w)

  -- from the first rule on
  pub from_1 : Judges (by rules_1)
  unfolding judgement rules
  from_1 = refl

  -- a rule by itself, on the way: the code refuses by it, or the rest decides
  pub stops : (r : Rule) (rs : List Rule) {number place : ℕ} → Judges (by (r ∷ rs)) → refused number place ≡ alone r → Judges (refused number place)
  stops r rs e f = e ∙ refuses r f rs (by_rows n mask)

  pub goes_on : (r : Rule) (rs : List Rule) → Judges (by (r ∷ rs)) → accepted ≡ alone r → Judges (by rs)
  goes_on r rs e f = e ∙ passes refused r rs (by_rows n mask) (passed r f)

  -- past the first rules, as many as the code has let pass
  module _ (rows : accepted ≡ alone (rule 1 (eqb n 0))) (small : accepted ≡ alone (rule 2 (ltb limit n))) where
    pub past_limit : From_3
    past_limit = goes_on (rule 2 (ltb limit n)) rules_3 (goes_on (rule 1 (eqb n 0)) rules_2 from_1 rows) small

    module _ (sized : accepted ≡ alone (rule 3 (not right_lengths))) where
      pub past_lengths : From_4
      past_lengths = goes_on (rule 3 (not right_lengths)) rules_4 past_limit sized

      pub at_cells : (number : ℕ) (bad : ℕ → Bool) {v : Verdict} → v ≡ alone (cell_rule number bad (length mask)) → v ≡ alone (cell_rule number bad (n * n))
      at_cells number bad e = rw (lengths_passed sized).mask_length at e

      module _ (flags : accepted ≡ alone (cell_rule 4 (bad_mask mask) (length mask))) where
        pub past_mask : From_5
        past_mask = goes_on (cell_rule 4 (bad_mask mask) (n * n)) rules_5 past_lengths (at_cells 4 (bad_mask mask) flags)

        pub past_costs : accepted ≡ alone (cell_rule 5 (bad_cost costs mask) (length mask)) → From_rows
        past_costs range = goes_on (cell_rule 5 (bad_cost costs mask) (n * n)) [] past_mask (at_cells 5 (bad_cost costs mask) range)

  -- past the last rule the rows decide
  rows_decide : From_rows → Judges (by_rows n mask)
  unfolding by_rules
  rows_decide e = e

  dead_by_rows : {i : ℕ} → Some i ≡ found n (first (dead_row n mask) n) → by_rows n mask ≡ dead i
  unfolding by_rows any
  dead_by_rows e = let d = some_found n (first (dead_row n mask) n) _ (sym e) in rw (d.0, lt-ltb _ n d.1)

  accepted_by_rows : None ≡ found n (first (dead_row n mask) n) → by_rows n mask ≡ accepted
  unfolding by_rows any
  accepted_by_rows e = rw (le-ltb _ n (none_found n (first (dead_row n mask) n) (sym e)))

  pub row_dead : From_rows → {i : ℕ} → Some i ≡ found n (first (dead_row n mask) n) → Judges (dead i)
  row_dead e f = rows_decide e ∙ dead_by_rows f

  pub rows_alive : From_rows → None ≡ found n (first (dead_row n mask) n) → Judges accepted
  rows_alive e f = rows_decide e ∙ accepted_by_rows f

-- above the limit the other buffers' lengths do not matter
pub others_matter : (limit n : ℕ) (costs : List ℤ) (mask : List ℕ) (others others' : Bool) → (n ≤ limit → others ≡ others')
    → judgement limit n costs mask others ≡ judgement limit n costs mask others'
others_matter limit n costs mask others others' e =
    by_cases (eqb n 0)
    (λ z. let e : n ≡ 0 = eqb-true n 0 z in rule_1 limit n costs mask others e ∙ sym (rule_1 limit n costs mask others' e))
    (λ s. by_cases (ltb limit n)
    (λ l. above others (eqb-false n 0 s) (ltb-true limit n l) ∙ sym (above others' (eqb-false n 0 s) (ltb-true limit n l)))
    (λ l. rw (e (ltb-false limit n l))))
  where
    above : (o : Bool) → n ≢ 0 → limit < n → judgement limit n costs mask o ≡ refused 2 0
    above o s l = rule_2 limit n costs mask o (past_1 limit n costs mask o s) l
