-- `Matrix::price_of_row` meets its contract: the least allowed cost, or 0.
use mathlib.Core.Path.{◌≡◌, refl, ap, ◌∙◌}
use lib.IntN.{ℤ, pos}
use borrow.Author.Rules.{rules}
use mir.Facts.{to_z-of_z}
use mir.Syntax.{w64}
use mir.Val.{SFits}
use Rattle.std.specs.Prelude.{Option, Some, None, unwrap_or}
use Rattle.lines.specs.Bounds.{Within}
use Rattle.lines.proofs.Signed.{within_zero}
use Rattle.ground.specs.Least.{value_or_zero}
use Rattle.ground.proofs.matrix.Matrix.price_of_row.Goals as goal

same : (o : Option ℤ) → unwrap_or o (pos 0) ≡ value_or_zero o
unfolding value_or_zero
same (Some z) = refl
same None = refl

small : (o : Option ℤ) → ((z : ℤ) → o ≡ Some z → Within 2147483648 z) → Within 2147483648 (unwrap_or o (pos 0))
small (Some z) f = f z refl
small None f = within_zero _

pub returns : goal.returns
returns c =
    let m = c.min_of_row.ensures in
    let f : SFits w64 c.unwrap_or.result = search rules in
    rw (to_z-of_z f, c.unwrap_or.ensures) (same _ ∙ ap value_or_zero m.0, small _ m.1)
