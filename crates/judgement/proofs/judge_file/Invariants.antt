-- `judge_file` meets its contract: the rest of the records gives the file's verdict (`Judging`); each record takes at least one byte.
use Rattle.std.proofs.Common.{◌-◌, length}
use Rattle.judgement.specs.View.{view_scan}
use Rattle.judgement.proofs.ViewLaws.{Judging}
use Rattle.judgement.proofs.judge_file.Given as goal

abbrev pub invariant-loop : goal.invariant-loop
invariant-loop l = Judging l.file (view_scan l.scan)

abbrev pub decreases-loop : goal.decreases-loop
decreases-loop l = length l.file - l.scan.at
