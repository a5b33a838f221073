-- `prices::adjust_prices` meets its contract: the covered rows' prices change by the negative, the uncovered columns' by the change.
use mathlib.Core.Path.{◌≡◌, ap, ◌∙◌}
use mathlib.Core.Bool.{true, false}
use native.Mathlib.Omega.{arith}
use lib.IntN.{pos, neg_ℤ, ◌-ℤ◌, +ℤ_idl}
use mir.Syntax.{w64}
use mir.Val.{to_z, of_z}
use mir.Facts.{to_z-of_z}
use Rattle.lines.proofs.Walks.{alike_lt}
use Rattle.ground.proofs.Wide.{back}
use Rattle.ground.proofs.Adjusting.{lowered_shifted, raised_shifted}
use Rattle.ground.proofs.prices.adjust_prices.Goals as goal

-- ---- what each call asks

pub shift_prices-requires : goal.shift_prices-requires
shift_prices-requires c =
    let turned : pos 0 -ℤ to_z w64 (of_z w64 c.args.change) ≡ neg_ℤ c.args.change = ap (λ z. pos 0 -ℤ z) (to_z-of_z c.ranges.change) ∙ +ℤ_idl _ in
    let turned_back : to_z w64 (of_z w64 (pos 0 -ℤ to_z w64 (of_z w64 c.args.change))) ≡ neg_ℤ c.args.change = back _ _ turned c.requires.back in
    let e = c.lines_alike.ensures in
    record {
      most = omega (arith, c.requires.row_lines, c.requires.word.most);
      within = rw (e, c.requires.row_lines) (alike_lt c.args.n c.args.rows true);
      values = rw (turned_back, lowered_shifted _ _ _ _ _ c.requires.row_lines e) c.requires.lower;
    }

pub shift_prices-requires-2 : goal.shift_prices-requires-2
shift_prices-requires-2 c =
    let e = c.lines_alike-2.ensures in
    record {
      most = omega (arith, c.requires.column_lines, c.requires.word.most);
      within = rw (e, c.requires.column_lines) (alike_lt c.args.n c.args.columns false);
      values = rw (to_z-of_z c.ranges.change, raised_shifted _ _ _ _ _ c.requires.column_lines e) c.requires.higher;
    }

pub returns : goal.returns
returns c =
    let turned : pos 0 -ℤ to_z w64 (of_z w64 c.args.change) ≡ neg_ℤ c.args.change = ap (λ z. pos 0 -ℤ z) (to_z-of_z c.ranges.change) ∙ +ℤ_idl _ in
    let turned_back : to_z w64 (of_z w64 (pos 0 -ℤ to_z w64 (of_z w64 c.args.change))) ≡ neg_ℤ c.args.change = back _ _ turned c.requires.back in (
      c.shift_prices.ensures ∙ rw turned_back (lowered_shifted _ _ _ _ _ c.requires.row_lines c.lines_alike.ensures),
      c.shift_prices-2.ensures ∙ rw (to_z-of_z c.ranges.change) (raised_shifted _ _ _ _ _ c.requires.column_lines c.lines_alike-2.ensures),
    )
