-- `report` meets its contract: the lines of what `pair` and `huts_of` gave.
use mathlib.Core.Path.{◌≡◌}
use borrow.Author.Rules.{rules}
use Rattle.text.specs.Text.{put}
use Rattle.valley.specs.Lines.{lines}
use Rattle.valley.specs.Report.{huts}
use Rattle.valley.proofs.report.report.Goals as goal

pub returns : goal.returns
returns c =
    let begun = c.begin-text.ensures in
    let text = c.put_lines.new.text in
    let put_there : (text.used, text.room.now) ≡ put c.args.out.now 0 (lines (huts c.args.file.now) c.pair-pairs.result c.pair-pairs.new.self.columns) =
    rw (begun.same_bytes, begun.none_used, c.huts_of.ensures) at c.put_lines.ensures.puts in
    record {
      pairs = _;
      filled = _;
      promise = rw c.new-room.ensures at c.pair-pairs.ensures;
      printed = search (rules, put_there);
    }
