-- Theorem: of a well-formed case, whatever meets the promise of `pair_case` pairs the case's lines, at least summed difference of their clocks, or says rightly that this cannot be.
use mathlib.Core.Path.{◌≡◌, sym, ap, subst, subst₂, ◌∙◌}
use mathlib.Core.Bool.{true}
use mathlib.Core.List.{List}
use Prim.Native.Nat.{ℕ, ◌≤◌, ◌<◌}
use native.Mathlib.Omega.{arith}
use lib.Dec.{leb→le}
use lib.IntN.{pos}
use lib.Signed.{◌≤ℤ◌}
use lib.ListN.{take}
use Rattle.lines.specs.Sum.{sum}
use Rattle.lines.proofs.Sums.{sum_ext}
use Rattle.lines.proofs.Sumsℤ.{sumℤ_pos}
use Rattle.assignment.specs.Problem.{column, Pairing, AllowedPairing, Block, total}
use Rattle.lines.specs.Sets.{has}
use Rattle.storm_case.specs.Scan.{Scan}
use Rattle.storm_case.specs.Case.{may_pair, clock_error}
use Rattle.storm_case.specs.Format.{Line, row_at, column_at, clocks_apart, encode, WellFormed}
use Rattle.storm_case.proofs.FormatLaws.{well_formed_accepted}
use Rattle.storm_case.proofs.FormatReader.{pair_allowed, allowed_pair, error_is}
use Rattle.pairing.specs.declared.Pairs.{Pairs}
use Rattle.pairing.specs.Pair.{Loan, enough_room, front, clock_cost, Solved, PairPromise}
use Rattle.pairing.specs.Told.{summed, PairsLines, ShutLines, AboutLines}

whole_le : {a b : ℕ} → pos a ≤ℤ pos b → a ≤ b
whole_le {a} {b} h = leb→le a b h.le

module _ {n window : ℕ} {lines : List Line} (h : WellFormed n window lines) where
  abbrev file : List ℕ
  file = encode n window lines

  abbrev scan : Scan
  scan = (well_formed_accepted h).scan

  size : scan.n ≡ n
  size = (well_formed_accepted h).matches.size

  -- ---- the same pairings

  to_lines : {q : List ℕ} → AllowedPairing scan.n scan.n (may_pair file scan) q → PairsLines n window lines q
  to_lines {q} a =
      let pairing : Pairing n n q = subst (λ k. Pairing k k q) size a.pairing in
      record { pairing = pairing; allowed = λ i l. pair_allowed h i (column q i) l (pairing.below i l) (a.allowed i (omega (arith, size))) }

  from_lines : {q : List ℕ} → PairsLines n window lines q → AllowedPairing scan.n scan.n (may_pair file scan) q
  from_lines {q} a = record {
    pairing = subst (λ k. Pairing k k q) (sym size) a.pairing;
    allowed = λ i l. let low : i < n = omega (arith, size) in allowed_pair h i (column q i) low (a.pairing.below i low) (a.allowed i low);
  }

  -- the same sums
  summed_is : {q : List ℕ} → PairsLines n window lines q → total (clock_cost file scan) scan.n q ≡ pos (summed n lines q)
  unfolding total summed
  summed_is {q} a =
      let error : ℕ → ℕ = λ i. clock_error file scan i (column q i) in
      let apart : ℕ → ℕ = λ i. clocks_apart (row_at lines i) (column_at lines (column q i)) in
      sumℤ_pos error scan.n ∙ ap (λ k. pos (sum error k)) size ∙ ap pos (sum_ext error apart n (λ i l. error_is h i (column q i) l (a.pairing.below i l)))

  -- ---- the sentence

  module _ {before after : Loan} {p : Pairs} (room : enough_room before ≡ true) (x : PairPromise file before p after) where
    solved : Solved file scan before p after
    solved = x.solved room scan (well_formed_accepted h).verdict

    abbrev columns : List ℕ
    columns = (front scan.n after.rest).columns

    pairs : p.number ≡ 0 → PairsLines n window lines columns
    pairs e = to_lines (solved.about.pairing e)

    totalled : (e : p.number ≡ 0) → p.total ≡ pos (summed n lines columns)
    totalled e = solved.about.totalled e ∙ summed_is (pairs e)

    block : Block scan.n scan.n (may_pair file scan) (has p.block_rows) (has p.block_columns) → ShutLines n window lines p.block_rows p.block_columns
    block b =
        let here = subst (λ k. Block k k (may_pair file scan) (has p.block_rows) (has p.block_columns)) size b in
        record { shut = λ i j hi hj r c a. here.shut i j hi hj r c (allowed_pair h i j hi hj a); large = here.large }

    told : AboutLines n window lines p columns
    told = record {
      size = ap (λ (q : Pairs). q.n) solved.solved.given ∙ size;
      window_is = ap (λ (q : Pairs). q.window) solved.solved.given ∙ (well_formed_accepted h).matches.window_is;
      settled = solved.about.settled;
      paired = λ e. record {
        pairs = pairs e;
        least = λ q a. whole_le (subst₂ (λ s t. s ≤ℤ t) (totalled e) (summed_is a) (solved.about.least e q (from_lines a)));
      };
      totalled = totalled;
      block = λ e. block (solved.about.block e);
      impossible = λ e q a. solved.about.impossible e q (from_lines a);
    }

    pub about_lines : AboutLines n window lines p (take n after.rest.columns)
    unfolding front
    about_lines = subst (λ k. AboutLines n window lines p (take k after.rest.columns)) size told
