-- Theorems of `pair_case`: two answers that meet its promise are equal, and the first 4,096 bytes decide.
use mathlib.Core.Path.{◌≡◌, refl, sym, ap, subst, ◌∙◌}
use mathlib.Core.Bool.{true}
use mathlib.Core.List.{List, ◌++◌}
use Prim.Native.Nat.{ℕ, ◌*◌}
use native.Mathlib.Omega.{arith}
use lib.ListN.{take, drop, take-append-drop}
use Rattle.lines.proofs.Tests.{by_cases}
use Rattle.steps.specs.declared.Answer.{Answer}
use Rattle.steps.specs.Lent.{Task, Buffers, buffers}
use Rattle.steps.specs.Promise.{Promise}
use Rattle.pairing.specs.declared.Pairs.{Pairs}
use Rattle.storm_case.specs.Scan as D
use Rattle.pairing.specs.Pair.{Loan, loan, enough_room, front, behind, paired, Solved, PairPromise}
use Rattle.storm_case.proofs.ScanLaws.{never_more}
use Rattle.storm_case.proofs.Decides.{cut_nothing, first_bytes}

-- The same law of the solver's promise. Only the promise is known here, so a crate that knows its proof hands it in.
abbrev pub OnlyAnswer : Type 0
OnlyAnswer = (t : Task) (before : Buffers) (a a' : Answer) (after after' : Buffers)
    → Promise 64 t before a after → Promise 64 t before a' after' → (a ≡ a') × (after ≡ after')

-- ---- buffers are their front and what lies behind it

rejoined : {A : Type 0} (k : ℕ) (xs ys : List A) → take k xs ≡ take k ys → drop k xs ≡ drop k ys → xs ≡ ys
rejoined k xs ys f b = sym (take-append-drop k xs) ∙ ap (λ l. l ++ drop k xs) f ∙ ap (λ l. take k ys ++ l) b ∙ take-append-drop k ys

same_buffers : (n : ℕ) (b c : Buffers) → front n b ≡ front n c → behind n b ≡ behind n c → b ≡ c
unfolding front behind
same_buffers n b c f h =
    let w = rejoined (n * n) b.working c.working (ap (λ (x : Buffers). x.working) f) (ap (λ (x : Buffers). x.working) h) in
    let m = rejoined (n * n) b.marks c.marks (ap (λ (x : Buffers). x.marks) f) (ap (λ (x : Buffers). x.marks) h) in
    let s = rejoined n b.columns c.columns (ap (λ (x : Buffers). x.columns) f) (ap (λ (x : Buffers). x.columns) h) in
    let r = rejoined n b.row_prices c.row_prices (ap (λ (x : Buffers). x.row_prices) f) (ap (λ (x : Buffers). x.row_prices) h) in
    let q = rejoined n b.column_prices c.column_prices (ap (λ (x : Buffers). x.column_prices) f) (ap (λ (x : Buffers). x.column_prices) h) in
    ap (λ l. buffers l b.marks b.columns b.row_prices b.column_prices) w
    ∙ ap (λ l. buffers c.working l b.columns b.row_prices b.column_prices) m
    ∙ ap (λ l. buffers c.working c.marks l b.row_prices b.column_prices) s
    ∙ ap (λ l. buffers c.working c.marks c.columns l b.column_prices) r
    ∙ ap (λ l. buffers c.working c.marks c.columns c.row_prices l) q

-- ---- the theorems

module _ (only_answer : OnlyAnswer) (file : List ℕ) (before : Loan) {p p' : Pairs} {after after' : Loan} where
  only_solved : (s : D.Scan) → Solved file s before p after → Solved file s before p' after' → (p ≡ p') × (after ≡ after')
  only_solved s x y =
      let same = only_answer _ _ _ _ _ _ x.solved.solver y.solved.solver in
      let rest = same_buffers s.n after.rest after'.rest same.1 (x.solved.kept ∙ sym y.solved.kept) in (
        x.solved.given ∙ ap (paired s.n s.window) same.0 ∙ sym y.solved.given,
        ap (λ l. loan l after.mask after.rest) (x.costs ∙ sym y.costs) ∙ ap (λ l. loan after'.costs l after.rest) (x.mask ∙ sym y.mask)
            ∙ ap (loan after'.costs after'.mask) rest,
      )

  pub only_pairs : PairPromise file before p after → PairPromise file before p' after' → (p ≡ p') × (after ≡ after')
  only_pairs x y = by_cases (enough_room before) (λ e. read e (D.judged file) refl) (λ e. both (x.crowded e) (y.crowded e))
    where
      both : {q : Pairs} → (p ≡ q) × (after ≡ before) → (p' ≡ q) × (after' ≡ before) → (p ≡ p') × (after ≡ after')
      both u v = (u.0 ∙ sym v.0, u.1 ∙ sym v.1)

      read : enough_room before ≡ true → (j : D.Judged) → D.judged file ≡ j → (p ≡ p') × (after ≡ after')
      read e (D.more s) j = absurd (never_more file j)
      read e (D.refused number place) j = both (x.unread e number place j) (y.unread e number place j)
      read e (D.accepted s) j = only_solved s (x.solved e s j) (y.solved e s j)

-- what the program reads of its input is enough
pub first_pairs : (file : List ℕ) {before : Loan} {p : Pairs} {after : Loan} → PairPromise (take 4096 file) before p after → PairPromise file before p after
first_pairs file {before} {p} {after} x = record {
  crowded = x.crowded;
  unread = λ e number place j. x.unread e number place (first_bytes file ∙ j);
  solved = λ e s j. subst (λ f. Solved f s before p after) (cut_nothing 4096 (omega arith) file j) (x.solved e s (first_bytes file ∙ j));
}
