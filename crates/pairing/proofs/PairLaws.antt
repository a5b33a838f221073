-- Pairing a case: the solver's promise on what was lent, and what is given back by the room and by the verdict.
use mathlib.Core.Path.{◌≡◌, refl, sym, ap, ◌∙◌}
use mathlib.Core.Logic.{◌≢◌}
use mathlib.Core.Bool.{true, false}
use mathlib.Core.List.{List, ◌++◌}
use Prim.Native.Nat.{ℕ, ◌*◌, ◌≤◌}
use native.Mathlib.Omega.{arith}
use lib.IntN.{ℤ}
use lib.ListN.{length, take, drop}
use lib.Seq.{take_at, drop_at}
use Rattle.lines.specs.Square.{square}
use Rattle.lines.proofs.Squares.{length_square}
use Rattle.lines.proofs.Tests.{clash}
use Rattle.steps.specs.declared.Answer.{Answer}
use Rattle.steps.specs.Lent.{Buffers, task, buffers}
use Rattle.steps.specs.Promise.{Promise}
use Rattle.storm_case.specs.declared.Case.{Case}
use Rattle.pairing.specs.declared.Pairs.{Pairs}
use Rattle.storm_case.specs.Scan as D
use Rattle.storm_case.specs.Case.{pair_cost, mask_byte, filled, case_of, read}
use Rattle.pairing.specs.Pair.{Loan, loan, enough_room, front, behind, unpaired, paired, enough, SolvedBy, Solved, PairPromise}
use Rattle.pairing.proofs.Fronts.{Fronts, cells_lent, fronts, front_room}
use Rattle.storm_case.proofs.ScanLaws.{never_more, accepted_filled, refused_some}
use Rattle.pairing.proofs.AboutLaws.{about_file}

-- ---- the solver's promise on what was lent of each buffer

-- five lists as long as what was lent of the five buffers
pub record AsLong (n : ℕ) (b after : Buffers) : Type 0 where
  pub working : length after.working ≡ length (take (n * n) b.working)
  pub marks : length after.marks ≡ length (take (n * n) b.marks)
  pub columns : length after.columns ≡ length (take n b.columns)
  pub row_prices : length after.row_prices ≡ length (take n b.row_prices)
  pub column_prices : length after.column_prices ≡ length (take n b.column_prices)

-- each buffer with a new front
abbrev pub with_front : ℕ → Buffers → Buffers → Buffers
with_front n after b =
    buffers (after.working ++ drop (n * n) b.working) (after.marks ++ drop (n * n) b.marks) (after.columns ++ drop n b.columns)
    (after.row_prices ++ drop n b.row_prices) (after.column_prices ++ drop n b.column_prices)

module _ {n window budget : ℕ} {costs : List ℤ} {mask : List ℕ} {l : Loan} {after : Buffers} {a : Answer} {p : Pairs} where
  pub solved_front : Fronts n l → AsLong n l.rest after → budget ≡ enough n → p ≡ paired n window a
      → Promise 64 (task n costs mask budget) (front n l.rest) a after → SolvedBy n costs mask window l.rest p (with_front n after l.rest)
  unfolding front behind
  solved_front f k eb ep promise =
      let w = k.working ∙ sym f.working.long in
      let m = k.marks ∙ sym f.marks.long in
      let c = k.columns ∙ sym f.columns.long in
      let r = k.row_prices ∙ sym f.row_prices.long in
      let q = k.column_prices ∙ sym f.column_prices.long in
      record {
        answer = a;
        solver = rw (take_at after.working _ _ w, take_at after.marks _ _ m, take_at after.columns _ _ c, take_at after.row_prices _ _ r, take_at after.column_prices _ _ q) (rw eb at promise);
        kept = rw (drop_at after.working _ _ w, drop_at after.marks _ _ m, drop_at after.columns _ _ c, drop_at after.row_prices _ _ r, drop_at after.column_prices _ _ q);
        given = ep;
      }

-- ---- what is given back, by the room and by the verdict

pub pair_crowded : {file : List ℕ} {before : Loan} {r : Pairs} → enough_room before ≡ false → r ≡ unpaired 20 0 → PairPromise file before r before
pair_crowded {file} {before} f q = record {
  crowded = λ e. (q, refl);
  unread = λ e number place j. clash (enough_room before) e f;
  solved = λ e s j. clash (enough_room before) e f;
}

-- what was read, where the room is right
module _ (file : List ℕ) (costs costs' : List ℤ) (mask mask' : List ℕ) (rest : Buffers) {case : Case}
    (fit : enough_room (loan costs mask rest) ≡ true)
    (read_is : ◌≡◌ {A = Case × List ℤ × List ℕ} (case, costs', mask') (read file costs mask)) where
  by_verdict : {j : D.Judged} → D.judged file ≡ j → ◌≡◌ {A = Case × List ℤ × List ℕ} (case, costs', mask') (case_of file costs mask j)
  unfolding read
  by_verdict {j} e = read_is ∙ rw (e, cells_lent (loan costs mask rest) fit)

  module _ {j : D.Judged} (e : D.judged file ≡ j) where
    case_is : case ≡ (case_of file costs mask j).0
    case_is = ap (λ (t : Case × List ℤ × List ℕ). t.0) (by_verdict e)

    costs_are : costs' ≡ (case_of file costs mask j).1
    costs_are = ap (λ (t : Case × List ℤ × List ℕ). t.1) (by_verdict e)

    mask_is : mask' ≡ (case_of file costs mask j).2
    mask_is = ap (λ (t : Case × List ℤ × List ℕ). t.2) (by_verdict e)

  pub pair_unread : {r : Pairs} → case.number ≢ 0 → r ≡ unpaired case.number case.place → PairPromise file (loan costs mask rest) r (loan costs' mask' rest)
  unfolding case_of
  pair_unread {r} some q = record {
    crowded = λ f. clash (enough_room (loan costs mask rest)) fit f;
    unread = λ e number place j. (q ∙ rw (case_is j), rw (costs_are j, mask_is j));
    solved = λ e s j. absurd (some (ap (λ (c : Case). c.number) (case_is j)));
  }

  module _ (none : case.number ≡ 0) where
    -- a file that is not refused is accepted
    read_accepted : (s : D.Scan) × (D.judged file ≡ D.accepted s)
    unfolding case_of
    read_accepted = go (D.judged file) refl
      where
        go : (j : D.Judged) → D.judged file ≡ j → (s : D.Scan) × (D.judged file ≡ D.accepted s)
        go (D.more s) e = absurd (never_more file e)
        go (D.refused number place) e = let q = ap (λ (c : Case). c.number) (case_is e) in absurd (omega (arith, refused_some file e, q, none))
        go (D.accepted s) e = (s, e)

    pub pair_asks : length costs' ≡ length costs → length mask' ≡ length mask → (case.n ≤ 64) × (enough_room (loan costs' mask' rest) ≡ true)
    unfolding case_of
    pair_asks lc lm =
        let a = read_accepted in
        let n = ap (λ (c : Case). c.n) (case_is a.1) in
        (omega (arith, n, (accepted_filled file a.1).small), rw (lc, lm) fit)

    -- what was solved are the file's cells
    module _ {s : D.Scan} (e : D.judged file ≡ D.accepted s) {p : Pairs} {after : Buffers}
        (by : SolvedBy case.n (take (case.n * case.n) costs') (take (case.n * case.n) mask') case.window rest p after) where
      cells : SolvedBy s.n (square (pair_cost file s) s.n) (square (mask_byte file s) s.n) s.window rest p after
      unfolding case_of filled
      cells =
          let k = s.n * s.n in
          let n : case.n ≡ s.n = ap (λ (c : Case). c.n) (case_is e) in
          let w : case.window ≡ s.window = ap (λ (c : Case). c.window) (case_is e) in
          let c : take k costs' ≡ square (pair_cost file s) s.n = ap (take k) (costs_are e) ∙ take_at (square (pair_cost file s) s.n) _ k (length_square _ s.n) in
          let m : take k mask' ≡ square (mask_byte file s) s.n = ap (take k) (mask_is e) ∙ take_at (square (mask_byte file s) s.n) _ k (length_square _ s.n) in
          rw (n, w, c, m) at by

      case_solved : Solved file s (loan costs mask rest) p (loan costs' mask' after)
      unfolding case_of
      case_solved =
          let full = accepted_filled file e in
          record {
            costs = costs_are e;
            mask = mask_is e;
            solved = cells;
            about = about_file file s full (front_room (fronts (loan costs mask rest) full.small fit)) cells;
          }

    pub pair_solved : {p : Pairs} {after : Buffers} → SolvedBy case.n (take (case.n * case.n) costs') (take (case.n * case.n) mask') case.window rest p after
        → PairPromise file (loan costs mask rest) p (loan costs' mask' after)
    unfolding case_of
    pair_solved by = record {
      crowded = λ f. clash (enough_room (loan costs mask rest)) fit f;
      unread = λ e number place j. let q = ap (λ (c : Case). c.number) (case_is j) in absurd (omega (arith, refused_some file j, q, none));
      solved = λ e s j. case_solved j by;
    }
