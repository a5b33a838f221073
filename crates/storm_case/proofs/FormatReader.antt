-- Theorem: the reader gives number 0 for exactly the well-formed cases, with the cells and huts that their lines say.
use mathlib.Core.Path.{◌≡◌, refl, sym, ap, ap₂, subst, ◌∙◌}
use mathlib.Core.Logic.{◌↔◌}
use mathlib.Core.Bool.{Bool, true, cond, not, ◌&&◌}
use mathlib.Core.List.{List}
use Prim.Native.Nat.{ℕ, ◌+◌, ◌-◌, ◌*◌, ◌≤◌, ◌<◌}
use native.Mathlib.Omega.{arith}
use lib.Dec.{T, not_T, eqb, eqb→eq, ltb, nltb→le}
use lib.IntN.{ℤ, pos}
use lib.ListN.{length, drop, length-append, length-drop, get_or-append}
use lib.Seq.{drop_at}
use borrow.Author.Tests.{lt-ltb, le-ltb, eq-eqb}
use Rattle.lines.specs.Square.{cell, square}
use Rattle.lines.proofs.Bounds.{cells_fit}
use Rattle.lines.proofs.Squares.{place_lt, length_square, square_at}
use Rattle.lines.proofs.Tests.{T_false, and_left, and_right}
use Rattle.storm_case.specs.declared.Case.{Case}
use Rattle.std.specs.Prelude.{Some, None}
use Rattle.judgement.specs.Numbers.{AreBytes}
use Rattle.judgement.specs.Scan as D
use Rattle.storm_case.specs.Case.{clock_error, may_pair, pair_cost, mask_byte, filled, case, case_of, has_cells, read, hut_in, hut}
use Rattle.storm_case.specs.Format.{Fragment, Event, Line, encode, WellFormed, IsCase, row_at, column_at, Matches}
use Rattle.storm_case.specs.Format.{Allowed, clocks_apart, PairIs, ReadAs}
use Rattle.judgement.proofs.ScanLaws.{never_more}
use Rattle.storm_case.proofs.Decides.{refused_early}
use Rattle.storm_case.proofs.FormatLaws.{accepted_exactly, well_formed_accepted}

-- ---- one pair

module _ (window : ℕ) (f : Fragment) (e : Event) where
  abbrev apart : ℕ
  apart = (f.clock - e.clock) + (e.clock - f.clock)

  abbrev test : Bool
  test = eqb f.area e.area && not (ltb window apart)

  passes : Allowed window f e → test ≡ true
  passes a = rw (eq-eqb f.area e.area a.same_area, le-ltb window apart (omega (arith, a.not_later, a.not_earlier)))

  passed : T test → Allowed window f e
  passed t =
      let near = nltb→le window apart (and_right (eqb f.area e.area) (not (ltb window apart)) t) in
      record {
        same_area = eqb→eq f.area e.area (and_left (eqb f.area e.area) (not (ltb window apart)) t);
        not_later = omega arith;
        not_earlier = omega arith;
      }

  pair_rule : PairIs window f e (cond test (pos apart) (pos 0)) (cond test 1 0)
  pair_rule = record {
    allowed = λ a. rw (passes a) (refl, ap pos (omega arith));
    forbidden = λ no. rw (T_false test (not_T test (λ t. no (passed t)))) (refl, refl);
  }

-- ---- a filled buffer

module _ {A : Type 0} (n : ℕ) (g : ℕ → ℕ → A) (xs : List A) (fits : n * n ≤ length xs) where
  filled_at : (d : A) (i j : ℕ) → i < n → j < n → cell d n (filled n g xs) i j ≡ g i j
  unfolding filled
  filled_at d i j hi hj =
      let here : i * n + j < length (square g n) = omega (arith, length_square g n, place_lt n i j hi hj) in
      get_or-append (square g n) (drop (n * n) xs) d (i * n + j) here ∙ square_at d g n i j hi hj

  filled_long : length (filled n g xs) ≡ length xs
  unfolding filled
  filled_long = omega (arith, length-append (square g n) (drop (n * n) xs), length_square g n, length-drop (n * n) xs)

  filled_rest : drop (n * n) (filled n g xs) ≡ drop (n * n) xs
  unfolding filled
  filled_rest = drop_at (square g n) (drop (n * n) xs) (n * n) (length_square g n)

-- ---- a well-formed case

module _ {n window : ℕ} {lines : List Line} (h : WellFormed n window lines) where
  abbrev file : List ℕ
  file = encode n window lines

  abbrev scan : D.Scan
  scan = (well_formed_accepted h).scan

  abbrev matches : Matches file scan n window lines
  matches = (well_formed_accepted h).matches

  module _ (i j : ℕ) (hi : i < n) (hj : j < n) where
    may_is : may_pair file scan i j ≡ test window (row_at lines i) (column_at lines j)
    unfolding may_pair clock_error
    may_is = rw (
      matches.window_is,
      matches.row_area_is i hi,
      matches.row_clock_is i hi,
      matches.column_area_is j hj,
      matches.column_clock_is j hj,
    )

    apart_is : clock_error file scan i j ≡ apart window (row_at lines i) (column_at lines j)
    unfolding clock_error
    apart_is = rw (matches.row_clock_is i hi, matches.column_clock_is j hj)

    cells_are : PairIs window (row_at lines i) (column_at lines j) (pair_cost file scan i j) (mask_byte file scan i j)
    unfolding pair_cost mask_byte
    cells_are = rw (may_is, apart_is) (pair_rule window (row_at lines i) (column_at lines j))

    -- what the reader allows, and its difference of the clocks
    pub pair_allowed : T (may_pair file scan i j) → Allowed window (row_at lines i) (column_at lines j)
    pair_allowed t = passed window (row_at lines i) (column_at lines j) (subst T may_is t)

    pub allowed_pair : Allowed window (row_at lines i) (column_at lines j) → T (may_pair file scan i j)
    allowed_pair a = rw (may_is, passes window (row_at lines i) (column_at lines j) a) tt

    pub error_is : clock_error file scan i j ≡ clocks_apart (row_at lines i) (column_at lines j)
    error_is = apart_is ∙ omega arith

  module _ (costs : List ℤ) (mask : List ℕ) (lc : length costs ≡ 4096) (lm : length mask ≡ 4096) where
    answer_is : read file costs mask ≡ (case 0 0 n window, filled n (pair_cost file scan) costs, filled n (mask_byte file scan) mask)
    unfolding read has_cells case_of
    answer_is =
        rw (eq-eqb (length costs) 4096 lc, eq-eqb (length mask) 4096 lm, (well_formed_accepted h).verdict)
        (ap₂ (λ a b. (case 0 0 a b, filled a (pair_cost file scan) costs, filled a (mask_byte file scan) mask)) matches.size matches.window_is)

    pub case_read : ReadAs n window lines costs mask (read file costs mask)
    case_read =
        let fc : n * n ≤ length costs = omega (arith, cells_fit h.small) in
        let fm : n * n ≤ length mask = omega (arith, cells_fit h.small) in
        subst (ReadAs n window lines costs mask) (sym answer_is) (record {
          case_is = refl;
          pair_is = λ i j hi hj. rw (
            filled_at n (pair_cost file scan) costs fc (pos 0) i j hi hj,
            filled_at n (mask_byte file scan) mask fm 0 i j hi hj,
          ) (cells_are i j hi hj);
          costs_long = filled_long n (pair_cost file scan) costs fc;
          mask_long = filled_long n (mask_byte file scan) mask fm;
          other_costs = filled_rest n (pair_cost file scan) costs fc;
          other_mask = filled_rest n (mask_byte file scan) mask fm;
        })

  pub case_hut : (i : ℕ) → (i < n → hut file i ≡ Some (row_at lines i).hut) × (n ≤ i → hut file i ≡ None)
  unfolding hut hut_in
  case_hut i = (
    λ l. rw ((well_formed_accepted h).verdict, matches.size, lt-ltb i n l, matches.hut i l),
    λ l. rw ((well_formed_accepted h).verdict, matches.size, le-ltb i n l),
  )

-- ---- any file

module _ (file : List ℕ) (bytes : AreBytes file) (costs : List ℤ) (mask : List ℕ) (lc : length costs ≡ 4096) (lm : length mask ≡ 4096) where
  zero_accepted : (j : D.Judged) → D.judged file ≡ j → (case_of file costs mask j).0.number ≡ 0 → IsCase file
  unfolding case_of
  zero_accepted (D.more s) e z = absurd (never_more file e)
  zero_accepted (D.refused number place) e z = absurd (omega (arith, (refused_early file e).0))
  zero_accepted (D.accepted s) e z = (accepted_exactly file bytes).0 (s, e)

  pub read_exactly : ((read file costs mask).0.number ≡ 0) ↔ IsCase file
  unfolding read has_cells
  read_exactly = (
    λ z. zero_accepted (D.judged file) refl (rw (eq-eqb (length costs) 4096 lc, eq-eqb (length mask) 4096 lm) at z),
    λ c. ap (λ (l : List ℕ). (read l costs mask).0.number) c.written
        ∙ ap (λ (r : Case). r.number) (case_read c.well_formed costs mask lc lm).case_is,
  )
