-- What the search of each step tells, and each step by its cases: what holds of every case, with what the search tells there, holds of the step.
use mathlib.Core.Path.{◌≡◌, ap}
use mathlib.Core.Logic.{◌≢◌}
use mathlib.Core.Bool.{Bool, not, cond, ◌&&◌}
use mathlib.Core.List.{List}
use Prim.Native.Nat.{ℕ, ◌+◌, ◌*◌, ◌/◌, ◌%◌, ◌≤◌, ◌<◌}
use native.Mathlib.Omega.{arith}
use lib.Dec.{T, T_not, ltb, ltb→lt, nltb→le, eqb, eqb→eq, eqb_refl}
use lib.IntN.{ℤ, pos, negsuc}
use lib.Signed.{◌≤ℤ◌}
use lib.ListN.{get_or, set}
use Rattle.lines.specs.Square.{cell}
use Rattle.lines.specs.Sets.{has}
use Rattle.lines.proofs.Tests.{cond_ind, both, and_left, and_right, T_yes, eqb_yes}
use Rattle.lines.proofs.Firsts.{first_is}
use Rattle.lines.proofs.Leasts.{least_is}
use Rattle.lines.proofs.Squares.{place_lt, place_of, place_in, place_back}
use Rattle.steps.specs.Going.{Open, OpenZero, NoZero, NoOpen}
use Rattle.steps.specs.Steps.{Next, Step3, Step4, Step5, Step6, Paired, NoPairing, Unfinished, Run, run_with, Machine, to, is_zero, star_in_row, star_columns, star_count, zero_at, step3, uncovered, covering, reaching, zero_in_column, zero_column, step4, adjusting, lowest, followed, lowered, raised, step6, step5, augmenting, step_at, step}

pub zero_is : (z : ℤ) → T (is_zero z) → z ≡ pos 0
unfolding is_zero
zero_is (pos m) t = ap pos (eqb→eq m 0 t)
zero_is (negsuc m) t = absurd t

pub is_zero_pos : T (is_zero (pos 0))
unfolding is_zero
is_zero_pos = eqb_refl 0

module _ (n : ℕ) (ok : ℕ → ℕ → Bool) where
  -- z is the least working value of the open cells, and there is one
  pub record Lowest (working : List ℤ) (rows columns : ℕ) (z : ℤ) : Type 0 where
    pub row : ℕ
    pub column : ℕ
    pub row_below : row < n
    pub column_below : column < n
    pub is_open : Open ok rows columns row column
    pub value : cell (pos 0) n working row column ≡ z
    pub low : (i j : ℕ) → i < n → j < n → Open ok rows columns i j → z ≤ℤ cell (pos 0) n working i j

  -- ---- step 4's search

  module _ (working : List ℤ) (rows columns : ℕ) where
    zero? : ℕ → ℕ → Bool
    zero? i j = uncovered rows columns i j && zero_at n ok working i j

    zero?_is : (i j : ℕ) → i < n → j < n → T (zero? i j) → OpenZero n ok working rows columns i j
    unfolding zero? uncovered zero_at
    zero?_is i j hi hj t =
        let u = and_left (not (has rows i) && not (has columns j)) _ t in
        let z = and_right (not (has rows i) && not (has columns j)) _ t in
        record {
          row_below = hi;
          column_below = hj;
          is_open = record { row = and_left (not (has rows i)) _ u; column = and_right (not (has rows i)) _ u; allowed = and_left (ok i j) _ z };
          zero = zero_is _ (and_right (ok i j) _ z);
        }

    is_zero? : (i j : ℕ) → Open ok rows columns i j → cell (pos 0) n working i j ≡ pos 0 → T (zero? i j)
    unfolding zero? uncovered zero_at
    is_zero? i j o e =
        both (not (has rows i) && not (has columns j)) _ (both (not (has rows i)) _ o.row o.column)
        (both (ok i j) _ o.allowed (rw e is_zero_pos))

    pub zero_found : zero_column n ok working rows columns < n → OpenZero n ok working rows columns (zero_in_column n ok working rows columns (zero_column n ok working rows columns)) (zero_column n ok working rows columns)
    unfolding zero_column zero_in_column zero?
    zero_found h =
        let j = zero_column n ok working rows columns in
        let l : zero_in_column n ok working rows columns j < n = ltb→lt _ _ ((first_is (λ j. ltb (zero_in_column n ok working rows columns j) n) n).hit h) in
        zero?_is _ j l h ((first_is (λ i. zero? i j) n).hit l)

    pub zero_none : n ≤ zero_column n ok working rows columns → NoZero n ok working rows columns
    unfolding zero_column zero_in_column zero?
    zero_none h i j hi hj o e =
        let l : n ≤ zero_in_column n ok working rows columns j = nltb→le _ _ ((first_is (λ j. ltb (zero_in_column n ok working rows columns j) n) n).before j (omega arith)) in
        T_not (zero? i j) ((first_is (λ i. zero? i j) n).before i (omega arith)) (is_zero? i j o e)

    -- ---- step 6's search

    open? : ℕ → ℕ → Bool
    open? i j = uncovered rows columns i j && ok i j

    open?_is : (i j : ℕ) → T (open? i j) → Open ok rows columns i j
    unfolding open? uncovered
    open?_is i j t =
        let u = and_left (not (has rows i) && not (has columns j)) _ t in
        record { row = and_left (not (has rows i)) _ u; column = and_right (not (has rows i)) _ u; allowed = and_right (not (has rows i) && not (has columns j)) _ t }

    is_open? : (i j : ℕ) → Open ok rows columns i j → T (open? i j)
    unfolding open? uncovered
    is_open? i j o = both (not (has rows i) && not (has columns j)) _ (both (not (has rows i)) _ o.row o.column) o.allowed

    low_at : (i j : ℕ) → i < n → j < n → Open ok rows columns i j → (lowest n ok working rows columns < n * n) × (get_or working (lowest n ok working rows columns) (pos 0) ≤ℤ cell (pos 0) n working i j)
    unfolding lowest open?
    low_at i j hi hj o =
        let q = place_of n i j hj in
        (least_is (λ q. open? (q / n) (q % n)) (λ q. get_or working q (pos 0)) (n * n)).low (i * n + j) (place_lt n i j hi hj) (rw (q.0, q.1) (is_open? i j o))

    pub lowest_found : lowest n ok working rows columns < n * n → Lowest working rows columns (get_or working (lowest n ok working rows columns) (pos 0))
    unfolding lowest open?
    lowest_found h =
        let v = lowest n ok working rows columns in
        let p = place_in n v h in
        record {
          row = v / n;
          column = v % n;
          row_below = p.0;
          column_below = p.1;
          is_open = open?_is _ _ ((least_is (λ q. open? (q / n) (q % n)) (λ q. get_or working q (pos 0)) (n * n)).hit h);
          value = ap (λ x. get_or working x (pos 0)) (place_back n v);
          low = λ i j hi hj o. (low_at i j hi hj o).1;
        }

    pub lowest_none : n * n ≤ lowest n ok working rows columns → NoOpen n ok rows columns
    lowest_none h i j hi hj o = omega (arith, (low_at i j hi hj o).0)

  -- ---- the steps by cases

  module _ (marks : List ℕ) (r : Run) where
    -- the columns of the stars covered
    abbrev pub crossed : Next → Run
    crossed x = run_with r.rows (star_columns n marks) r.adjustments r.primes r.augmentations x

    pub step3_ind : (P : Run → Type 0) → (star_count n marks ≡ n → P (crossed Paired)) → (star_count n marks ≢ n → P (crossed Step4)) → P (step3 n marks r)
    unfolding step3
    step3_ind P full part =
        cond_ind (λ x. P (crossed x)) (eqb (star_count n marks) n) Paired Step4
        (λ t. full (eqb→eq _ n t)) (λ t. part (λ e. T_not (eqb (star_count n marks) n) t (eqb_yes _ n e)))

  module _ (working : List ℤ) (r : Run) (marks : List ℕ) where
    abbrev pub marked : ℕ → ℕ → List ℕ
    marked i j = set marks (i * n + j) 2

    pub step4_ind : (P : Run × List ℕ → Type 0)
        → ((i j : ℕ) → OpenZero n ok working r.rows r.columns i j → star_in_row n (marked i j) i < n → P (covering i (star_in_row n (marked i j) i) r, marked i j))
        → ((i j : ℕ) → OpenZero n ok working r.rows r.columns i j → n ≤ star_in_row n (marked i j) i → P (reaching i j r, marked i j))
        → (NoZero n ok working r.rows r.columns → P (to Step6 r, marks))
        → P (step4 n ok working r marks)
    unfolding step4
    step4_ind P covers reaches none =
        let j = zero_column n ok working r.rows r.columns in
        let i = zero_in_column n ok working r.rows r.columns j in
        let s = star_in_row n (marked i j) i in
        cond_ind P (ltb j n) (cond (ltb s n) (covering i s r) (reaching i j r), marked i j) (to Step6 r, marks)
        (λ t. let z = zero_found working r.rows r.columns (ltb→lt j n t) in
        cond_ind (λ x. P (x, marked i j)) (ltb s n) (covering i s r) (reaching i j r) (λ u. covers i j z (ltb→lt s n u)) (λ u. reaches i j z (nltb→le s n u)))
        (λ t. none (zero_none working r.rows r.columns (nltb→le j n t)))

  module _ (budget : ℕ) (r : Run) (working row_prices column_prices : List ℤ) where
    pub step6_ind : (P : Run × List ℤ × List ℤ × List ℤ → Type 0)
        → (NoOpen n ok r.rows r.columns → P (to NoPairing r, working, row_prices, column_prices))
        → ((z : ℤ) → Lowest working r.rows r.columns z → r.adjustments ≡ budget → P (to Unfinished r, working, row_prices, column_prices))
        → ((z : ℤ) → Lowest working r.rows r.columns z → r.adjustments ≢ budget → P (adjusting r, followed n ok z r.rows r.columns working, lowered z r.rows row_prices, raised z r.columns column_prices))
        → P (step6 n ok budget r working row_prices column_prices)
    unfolding step6
    step6_ind P none spent adjusts =
        let q = lowest n ok working r.rows r.columns in
        let z = get_or working q (pos 0) in
        cond_ind P (not (ltb q (n * n))) (to NoPairing r, working, row_prices, column_prices) _
        (λ t. none (lowest_none working r.rows r.columns (nltb→le q (n * n) t)))
        (λ t. let l = lowest_found working r.rows r.columns (ltb→lt q (n * n) (T_yes (ltb q (n * n)) (λ u. T_not (not (ltb q (n * n))) t u))) in
        cond_ind P (eqb r.adjustments budget) (to Unfinished r, working, row_prices, column_prices)
        (adjusting r, followed n ok z r.rows r.columns working, lowered z r.rows row_prices, raised z r.columns column_prices)
        (λ u. spent z l (eqb→eq _ budget u))
        (λ u. adjusts z l (λ e. T_not (eqb r.adjustments budget) u (eqb_yes _ budget e))))

-- ---- what a step does to the run

module _ (n : ℕ) (ok : ℕ → ℕ → Bool) (budget : ℕ) (m : Machine) where
  -- P x r: the step x leads to the run r
  pub step_ind : (P : Next → Run → Type 0)
      → ((x : Next) → P Step3 (crossed n ok m.marks m.run x))
      → ((i s : ℕ) → P Step4 (covering i s m.run))
      → ((i j : ℕ) → P Step4 (reaching i j m.run))
      → P Step4 (to Step6 m.run)
      → ((i j : ℕ) → P (Step5 i j) (augmenting m.run))
      → P Step6 (to NoPairing m.run)
      → (m.run.adjustments ≡ budget → P Step6 (to Unfinished m.run))
      → (m.run.adjustments ≢ budget → P Step6 (adjusting m.run))
      → P Paired m.run
      → P NoPairing m.run
      → P Unfinished m.run
      → P m.run.next (step n ok budget m).run
  unfolding step step_at step5
  step_ind P crosses covers reaches none augments blocks spends adjusts paired blocked spent = go m.run.next
    where
      go : (x : Next) → P x (step_at n ok budget x m).run
      go Step3 = step3_ind n ok m.marks m.run (P Step3) (λ full. crosses Paired) (λ part. crosses Step4)
      go Step4 = step4_ind n ok m.working m.run m.marks (λ o. P Step4 o.0) (λ i j z h. covers i _) (λ i j z h. reaches i j) (λ z. none)
      go (Step5 i j) = augments i j
      go Step6 =
          step6_ind n ok budget m.run m.working m.row_prices m.column_prices (λ o. P Step6 o.0) (λ z. blocks) (λ z l e. spends e) (λ z l e. adjusts e)
      go Paired = paired
      go NoPairing = blocked
      go Unfinished = spent
