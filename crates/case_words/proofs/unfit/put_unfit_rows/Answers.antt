-- `put_unfit_rows` meets its contract: after so many rows their lines are put.
use mathlib.Core.Path.{◌≡◌}
use native.Mathlib.Omega.{arith}
use Rattle.text.proofs.PutLaws.{puts_none}
use Rattle.entries.specs.Lines.{each_line}
use Rattle.entries.proofs.ListLaws.{puts_line}
use Rattle.case_words.specs.Unfit.{may_pair, row_fits, unfit_rows}
use Rattle.case_words.proofs.Anys.{any_listed}
use Rattle.case_words.proofs.unfit.put_unfit_rows.Goals as goal

pub loop-row-init : goal.loop-row-init
unfolding each_line
loop-row-init c = puts_none _

pub loop-row-preserved : goal.loop-row-preserved
unfolding row_fits
loop-row-preserved c =
    let s = c.args.solved.now in
    let i = c.loop-row.row in
    puts_line _ i c.loop-row.invariant (rw (c.row_fits.ensures, any_listed (λ j. may_pair s.n s.mask i j) s.n) at c.put_unfit_row.ensures)

pub returns : goal.returns
unfolding unfit_rows
returns c =
    let all : c.loop-row.row ≡ c.args.solved.now.n = omega arith in
    rw all at (c.loop-row.invariant)
