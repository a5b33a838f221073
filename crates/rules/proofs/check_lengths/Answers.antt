-- `check_lengths` is rule 3.
use mathlib.Core.Bool.{and-false}
use borrow.Author.Tests.{eq-eqb, ne_eqb}
use Rattle.rules.proofs.JudgeLaws.{says, silent}
use Rattle.rules.proofs.check_lengths.Goals.{else-costs-cells-via-then-costs-cells+then-mask-cells+else-others, else-costs-cells-via-then-costs-cells+else-mask-cells, else-costs-cells-via-else-costs-cells}
use Rattle.rules.proofs.check_lengths.Goals as goal

pub returns-then-others : goal.returns-then-others
returns-then-others c = silent _ (rw (eq-eqb _ _ c.if-costs-cells.true, eq-eqb _ _ c.if-mask-cells.true, c.if-others.true))

pub returns : goal.returns
returns c =
    says _ (elim c.else-costs-cells.branch [
      | else-costs-cells-via-then-costs-cells+then-mask-cells+else-others w ↦ rw (w.if-others.false, and-false)
      | else-costs-cells-via-then-costs-cells+else-mask-cells w ↦ rw (ne_eqb _ _ w.if-mask-cells.false, and-false)
      | else-costs-cells-via-else-costs-cells w ↦ rw (ne_eqb _ _ w.if-costs-cells.false)
    ])
