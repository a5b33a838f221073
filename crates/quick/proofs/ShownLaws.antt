-- The machine that is held is the one that the code's state shows, so a step of the code is a step of that machine.
use mathlib.Core.Path.{◌≡◌, sym, ap, ◌∙◌}
use mathlib.Core.Bool.{cond}
use mathlib.Core.List.{List}
use Prim.Native.Nat.{ℕ, ◌*◌, ◌<◌}
use native.Mathlib.Omega.{arith}
use lib.IntN.{ℤ, pos, ◌+ℤ◌, ◌-ℤ◌}
use lib.ListN.{get_or}
use lib.Seq.{ext_get_or}
use Rattle.lines.specs.Square.{cell, square}
use Rattle.lines.proofs.Tests.{T_true, T_false, T_or, cases}
use Rattle.lines.proofs.Signed.{signed, plus_parts, minus_parts}
use Rattle.lines.proofs.Squares.{place_in, place_back, length_square, square_at}
use Rattle.steps.specs.Lent.{allows, cost_at}
use Rattle.steps.specs.Steps.{Machine, machine}
use Rattle.steps.specs.Going.{Starred, Search, Ready, Sound_at}
use Rattle.steps.proofs.Phase.{star_off}
use Rattle.steps.proofs.Search.{time', chained}
use Rattle.starred.specs.Written.{working_of, marks_of}
use Rattle.quick.specs.Shown.{Held, shown}
use Rattle.quick.proofs.LineLaws.{marks_shown}
use Rattle.quick.proofs.TableLaws.{priced}
use Rattle.steps.specs.Steps as S
use Rattle.steps.proofs.Path as Path

module _ {n : ℕ} {costs : List ℤ} {mask : List ℕ} {budget : ℕ} {m : Machine} {risen best : ℤ} {keys : List ℤ} {star owner prime cheapest : List ℕ} {key : List ℤ}
    (h : Held n costs mask budget m risen best keys star owner prime cheapest key) where
  abbrev value : ℕ → ℕ → ℤ
  value i j = cond (allows n mask i j) (cost_at n costs i j -ℤ get_or m.row_prices i (pos 0) -ℤ get_or m.column_prices j (pos 0)) (pos 0)

  cell_is : (i j : ℕ) → i < n → j < n → cell (pos 0) n m.working i j ≡ value i j
  cell_is i j hi hj =
      let p = get_or m.row_prices i (pos 0) in
      let q = get_or m.column_prices j (pos 0) in
      let w = cell (pos 0) n m.working i j in
      let c = cost_at n costs i j in
      cases (T_or (allows n mask i j))
      (λ t. let e = (priced h.tabled).equation i j hi hj t in
      rw (T_true (allows n mask i j) t) (omega (signed, e, plus_parts (p +ℤ q) w, plus_parts p q, minus_parts c p, minus_parts (c -ℤ p) q)))
      (λ t. rw (T_false (allows n mask i j) t) ((priced h.tabled).none i j hi hj t))

  working_shown : m.working ≡ working_of n costs mask m.row_prices m.column_prices
  unfolding working_of
  working_shown =
      ext_get_or (pos 0) m.working _ (h.tabled.kept.going.shape.working ∙ sym (length_square value n)) (λ q l.
      let b : q < n * n = omega (arith, h.tabled.kept.going.shape.working) in
      let p = place_in n q b in
      let e = place_back n q in
      ap (λ x. get_or m.working x (pos 0)) (sym e) ∙ cell_is _ _ p.0 p.1 ∙ sym (square_at (pos 0) value n _ _ p.0 p.1) ∙ ap (λ x. get_or (square value n) x (pos 0)) e)

  by_stars : Starred n (allows n mask) m.working m.marks → m.marks ≡ marks_of n star prime
  by_stars s = marks_shown s.shows (λ i hi l. absurd (omega arith)) h.lines

  by_search : {rows columns : ℕ} → Search n (allows n mask) m.working m.marks rows columns → m.marks ≡ marks_of n star prime
  by_search s = marks_shown s.shows (λ i hi l. star_off s.phase i hi l) h.lines

  by_ready : {rows columns i j : ℕ} → Ready n (allows n mask) m.working m.marks rows columns i j → m.marks ≡ marks_of n star prime
  by_ready s =
      marks_shown s.shows (λ i hi l. Path.star_off s.shows (time' n (allows n mask) s) s.row s.phase.matching (chained n (allows n mask) s) i hi l) h.lines

  marks_are : m.marks ≡ marks_of n star prime
  marks_are = go m.run.next h.tabled.kept.going.sound.at_next
    where
      go : (x : S.Next) → Sound_at n (allows n mask) x m → m.marks ≡ marks_of n star prime
      go S.Step3 s = by_stars s.0
      go S.Step4 s = by_search s
      go (S.Step5 i j) s = by_ready s
      go S.Step6 s = by_search s.0
      go S.Paired s = by_stars s.0
      go S.NoPairing s = by_search s.0
      go S.Unfinished s = by_search s.0

  pub shown_is : {run : S.Run} {row_prices column_prices : List ℤ} → m.run ≡ run → m.row_prices ≡ row_prices → m.column_prices ≡ column_prices
      → m ≡ shown n costs mask run row_prices column_prices star prime
  shown_is {run} {row_prices} {column_prices} a b c =
      let w = rw (b, c) at working_shown in
      ap (λ x. machine x m.working m.marks m.row_prices m.column_prices) a
      ∙ ap (λ x. machine (run) x m.marks m.row_prices m.column_prices) w
      ∙ ap (λ x. machine (run) (working_of n costs mask row_prices column_prices) x m.row_prices m.column_prices) marks_are
      ∙ ap (λ x. machine (run) (working_of n costs mask row_prices column_prices) (marks_of n star prime) x m.column_prices) b
      ∙ ap (λ x. machine (run) (working_of n costs mask row_prices column_prices) (marks_of n star prime) row_prices x) c
