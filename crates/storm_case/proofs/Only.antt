-- Theorem: two answers that meet the promise are equal, of the reader with all that it is lent, of the hut, and of what each line says.
use mathlib.Core.Path.{◌≡◌, refl, sym, ap, ◌∙◌}
use mathlib.Core.List.{List}
use Prim.Native.Nat.{ℕ}
use lib.IntN.{ℤ}
use Rattle.storm_case.specs.declared.Case.{Case}
use lib.Dec.{eqb}
use mathlib.Core.Bool.{cond}
use Rattle.std.specs.Prelude.{Option, Result, Ok, Err}
use Rattle.storm_case.specs.declared.Size.{Size}
use Rattle.judgement.specs.Refused.{number_of, refusal}
use Rattle.judgement.specs.declared.refusal.Refusal.{Refusal}
use Rattle.judgement.specs.declared.refusal.Rule.{Rule}
use Rattle.judgement.specs.declared.refusal.Rule.TheVariants.{Room, Cut, Unknown, Order, Count, Range, Behind}
use Rattle.judgement.specs.Scan.{Scan}
use Rattle.storm_case.specs.Case.{case, case_from, read, hut}
use Rattle.said.specs.Said.{said}

-- each promise is an equation, so one law serves all
only : {A : Type 0} {r s : A} (said : A) → r ≡ said → s ≡ said → r ≡ s
only said e f = e ∙ sym f

-- the answer, and every cost and mask byte that was lent
pub only_read : (file : List ℕ) (costs : List ℤ) (mask : List ℕ) {r r' : Case} {c c' : List ℤ} {m m' : List ℕ}
    → (r, c, m) ≡ read file costs mask → (r', c', m') ≡ read file costs mask → ◌≡◌ {A = Case × List ℤ × List ℕ} (r, c, m) (r', c', m')
only_read file costs mask = only (read file costs mask)

-- ---- the record tells the reader's answer

rule_of : ℕ → Rule
rule_of number =
    cond (eqb number 20) Room (cond (eqb number 21) Cut (cond (eqb number 22) Unknown (cond (eqb number 23) Order
    (cond (eqb number 24) Count (cond (eqb number 25) Range Behind)))))

answer_of : Case → Result Size Refusal
answer_of c = cond (eqb c.number 0) (Ok (record { n = c.n; window = c.window })) (Err (refusal (rule_of c.number) c.place))

answer_back : (r : Result Size Refusal) → answer_of (case_from r) ≡ r
unfolding answer_of rule_of
answer_back (Ok s) = refl
answer_back (Err e) = go e.rule e.place
  where
    go : (rule : Rule) (place : ℕ) → answer_of (case (number_of rule) place 0 0) ≡ Err (refusal rule place)
    go Room place = refl
    go Cut place = refl
    go Unknown place = refl
    go Order place = refl
    go Count place = refl
    go Range place = refl
    go Behind place = refl

-- so two answers of the reader itself that meet its promise are equal, with every cost and mask byte that was lent
pub only_answer : (file : List ℕ) (costs : List ℤ) (mask : List ℕ) {r r' : Result Size Refusal} {c c' : List ℤ} {m m' : List ℕ}
    → (case_from r, c, m) ≡ read file costs mask → (case_from r', c', m') ≡ read file costs mask
    → ◌≡◌ {A = Result Size Refusal × List ℤ × List ℕ} (r, c, m) (r', c', m')
only_answer file costs mask {r} {r'} {c} {c'} {m} {m'} e f =
    let same = only_read file costs mask e f in
    let back : (r : Result Size Refusal) (c : List ℤ) (m : List ℕ) → ◌≡◌ {A = Result Size Refusal × List ℤ × List ℕ} (answer_of (case_from r), c, m) (r, c, m)
    = λ r c m. ap (λ (a : Result Size Refusal). (a, c, m)) (answer_back r) in
    sym (back r c m) ∙ ap (λ (t : Case × List ℤ × List ℕ). (answer_of t.0, t.1, t.2)) same ∙ back r' c' m'

pub only_hut : (file : List ℕ) (i : ℕ) {r s : Option ℕ} → r ≡ hut file i → s ≡ hut file i → r ≡ s
only_hut file i = only (hut file i)

-- every place that was lent for what the records say of each line
pub only_said : (f : List ℕ → Scan → ℕ → ℕ) (file room : List ℕ) {r s : List ℕ} → r ≡ said f file room → s ≡ said f file room → r ≡ s
only_said f file room = only (said f file room)
