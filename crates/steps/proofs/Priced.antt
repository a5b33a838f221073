-- The prices: at every allowed cell the cost is row price and column price and working value, and no working value is negative. Every step keeps that.
use mathlib.Core.Path.{◌≡◌, ◌∙◌}
use mathlib.Core.Bool.{Bool, true, false, not, cond}
use Prim.Native.Nat.{ℕ, ◌<◌}
use native.Mathlib.Omega.{arith}
use lib.Dec.{T}
use lib.IntN.{ℤ, pos, ◌+ℤ◌, ◌-ℤ◌}
use lib.Signed.{◌≤ℤ◌}
use lib.ListN.{get_or}
use Rattle.lines.specs.Square.{cell}
use Rattle.lines.specs.Sets.{has}
use Rattle.lines.proofs.Tests.{T_true, T_false}
use Rattle.lines.proofs.Leasts.{least_is}
use Rattle.lines.proofs.Signed.{signed, plus_parts, minus_parts}
use Rattle.lines.proofs.Squares.{table_at, square_at}
use Rattle.steps.specs.Going.{Priced, Shape}
use Rattle.steps.specs.Steps.{Next, Step3, Step4, Step5, Step6, Paired, NoPairing, Unfinished, Run, Machine, machine, row_price, excess, start, follow, lowered, raised, followed, step_at, step}
use Rattle.steps.proofs.Turns.{Lowest, step6_ind}
use Rattle.steps.proofs.Adjusted.{followed_at, lowered_at, raised_at, forbidden_stays}

-- ---- an adjustment at one cell, by whether its row and its column are covered

equation_kept : (row column : Bool) (c p q w z : ℤ) → c ≡ p +ℤ q +ℤ w → c ≡ cond row (p -ℤ z) p +ℤ cond column q (q +ℤ z) +ℤ follow z row column w
unfolding follow
equation_kept true true c p q w z e =
    omega (signed, plus_parts (p +ℤ q) w, plus_parts p q, minus_parts p z, plus_parts (p -ℤ z) q, plus_parts w z, plus_parts (p -ℤ z +ℤ q) (w +ℤ z))
equation_kept true false c p q w z e =
    omega (signed, plus_parts (p +ℤ q) w, plus_parts p q, minus_parts p z, plus_parts q z, plus_parts (p -ℤ z) (q +ℤ z), plus_parts (p -ℤ z +ℤ (q +ℤ z)) w)
equation_kept false true c p q w z e = e
equation_kept false false c p q w z e =
    omega (signed, plus_parts (p +ℤ q) w, plus_parts p q, plus_parts q z, plus_parts p (q +ℤ z), minus_parts w z, plus_parts (p +ℤ (q +ℤ z)) (w -ℤ z))

whole_kept : (row column : Bool) (w z : ℤ) → pos 0 ≤ℤ w → pos 0 ≤ℤ z → (T (not row) → T (not column) → z ≤ℤ w) → pos 0 ≤ℤ follow z row column w
unfolding follow
whole_kept true true w z h k l = omega (signed, plus_parts w z)
whole_kept true false w z h k l = h
whole_kept false true w z h k l = h
whole_kept false false w z h k l = let g = l tt tt in omega (signed, minus_parts w z)

-- ---- step 1

module _ (n : ℕ) (ok : ℕ → ℕ → Bool) (cost : ℕ → ℕ → ℤ) where
  -- the row price is at most every allowed cost of the row
  pub row_price_low : (i j : ℕ) → j < n → T (ok i j) → row_price n ok cost i ≤ℤ cost i j
  unfolding row_price
  row_price_low i j hj t = ((least_is (ok i) (cost i) n).low j hj t).1

  pub excess_allowed : (i j : ℕ) → T (ok i j) → excess n ok cost i j ≡ cost i j -ℤ row_price n ok cost i
  unfolding excess
  excess_allowed i j t = rw (T_true (ok i j) t)

  pub excess_forbidden : (i j : ℕ) → T (not (ok i j)) → excess n ok cost i j ≡ pos 0
  unfolding excess
  excess_forbidden i j t = rw (T_false (ok i j) t)

  pub priced_start : Priced n ok cost (start n ok cost)
  unfolding start
  priced_start = record {
    equation = λ i j hi hj t.
        let p = row_price n ok cost i in
        rw (
          table_at (pos 0) (row_price n ok cost) n i hi,
          table_at (pos 0) (λ j. pos 0) n j hj,
          square_at (pos 0) (excess n ok cost) n i j hi hj,
          excess_allowed i j t,
        ) (omega (signed, plus_parts p (pos 0), minus_parts (cost i j) p, plus_parts (p +ℤ pos 0) (cost i j -ℤ p)));
    whole = λ i j hi hj t.
        let l = row_price_low i j hj t in
        rw (square_at (pos 0) (excess n ok cost) n i j hi hj, excess_allowed i j t) (omega (signed, minus_parts (cost i j) (row_price n ok cost i)));
    none = λ i j hi hj t. square_at (pos 0) (excess n ok cost) n i j hi hj ∙ excess_forbidden i j t;
  }

  -- ---- every step

  module _ (m : Machine) (s : Shape n m) (p : Priced n ok cost m) where
    priced_adjust : (r : Run) (z : ℤ) → Lowest n ok m.working m.run.rows m.run.columns z
        → Priced n ok cost (machine r (followed n ok z m.run.rows m.run.columns m.working) m.marks (lowered z m.run.rows m.row_prices) (raised z m.run.columns m.column_prices))
    priced_adjust r z l = record {
      equation = λ i j hi hj t.
          let old_row = get_or m.row_prices i (pos 0) in
          let old_column = get_or m.column_prices j (pos 0) in
          rw (
            lowered_at z m.run.rows m.row_prices i (omega (arith, s.row_prices)),
            raised_at z m.run.columns m.column_prices j (omega (arith, s.column_prices)),
            followed_at n ok z m.run.rows m.run.columns m.working s.working i j hi hj,
            T_true (ok i j) t,
          ) (equation_kept (has m.run.rows i) (has m.run.columns j) (cost i j) old_row old_column (cell (pos 0) n m.working i j) z (p.equation i j hi hj t));
      whole = λ i j hi hj t.
          rw (followed_at n ok z m.run.rows m.run.columns m.working s.working i j hi hj, T_true (ok i j) t)
          (whole_kept (has m.run.rows i) (has m.run.columns j) _ z (p.whole i j hi hj t) positive
          (λ u v. l.low i j hi hj (record { row = u; column = v; allowed = t })));
      none = λ i j hi hj t. forbidden_stays n ok z m.run.rows m.run.columns m.working s.working i j hi hj t ∙ p.none i j hi hj t;
    }
      where
        positive : pos 0 ≤ℤ z
        positive = rw l.value at (p.whole l.row l.column l.row_below l.column_below l.is_open.allowed)

  pub priced_step : (budget : ℕ) (m : Machine) → Shape n m → Priced n ok cost m → Priced n ok cost (step n ok budget m)
  unfolding step step_at
  priced_step budget m s p = go m.run.next
    where
      go : (x : Next) → Priced n ok cost (step_at n ok budget x m)
      go Step3 = record { equation = p.equation; whole = p.whole; none = p.none }
      go Step4 = record { equation = p.equation; whole = p.whole; none = p.none }
      go (Step5 i j) = record { equation = p.equation; whole = p.whole; none = p.none }
      go Step6 =
          step6_ind n ok budget m.run m.working m.row_prices m.column_prices (λ o. Priced n ok cost (machine o.0 o.1 m.marks o.2 o.3))
          (λ none. record { equation = p.equation; whole = p.whole; none = p.none })
          (λ z l e. record { equation = p.equation; whole = p.whole; none = p.none })
          (λ z l e. priced_adjust m s p _ z l)
      go Paired = p
      go NoPairing = p
      go Unfinished = p
