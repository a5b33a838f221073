-- `put_lines` meets its contract, by the answer's number.
use borrow.Author.Rules.{rules}
use mir.Facts.{to_z-of_z}
use mir.Syntax.{w64}
use Rattle.text.proofs.PutLaws.{◌▸◌}
use Rattle.valley.proofs.LineLaws.{lines_paired, lines_none, lines_refused}
use Rattle.valley.proofs.print.put_lines.Goals as goal

pub returns-then-pairs-eq0 : goal.returns-then-pairs-eq0
returns-then-pairs-eq0 c =
    let pairs = c.args.pairs in
    rw (lines_paired _ pairs _ c.if-pairs-eq0.true) (rw (to_z-of_z {w = w64} {z = pairs.total} (search rules)) at (c.put_rows.ensures ▸ c.put_total.ensures))

pub returns-then-pairs-eq6 : goal.returns-then-pairs-eq6
returns-then-pairs-eq6 c = rw (lines_none _ c.args.pairs _ c.if-pairs-eq6.true) c.put.ensures

pub returns-else-pairs-eq6 : goal.returns-else-pairs-eq6
returns-else-pairs-eq6 c = rw (lines_refused _ c.args.pairs _ c.if-pairs-eq0.false c.if-pairs-eq6.false) c.put_refusal.ensures
