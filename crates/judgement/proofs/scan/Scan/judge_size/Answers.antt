-- `judge_size` meets its contract, test by test (`ScanLaws`, `ViewLaws`).
use Rattle.judgement.proofs.ScanLaws.{size_twice, size_bad}
use Rattle.judgement.proofs.ViewLaws.{bad_sizes, size_read}
use Rattle.judgement.proofs.scan.Scan.judge_size.Goals as goal

pub returns-then-self-ne0-clause-judged : goal.returns-then-self-ne0-clause-judged
returns-then-self-ne0-clause-judged c = rw c.at.ensures (size_twice _ _ c.if-self-ne0.true)

pub returns-then-n-eq0-clause-judged : goal.returns-then-n-eq0-clause-judged
returns-then-n-eq0-clause-judged c =
    rw c.at-then-n-eq0.ensures (size_bad _ _ c.if-self-ne0.false (bad_sizes _ _ c.read-n.ensures c.read-window.ensures c.then-n-eq0.either))

pub returns-clause-judged : goal.returns-clause-judged
returns-clause-judged c =
    size_read _ _ c.read-n.ensures c.read-window.ensures c.from-self.ensures c.requires.0 c.if-self-ne0.false c.if-n-eq0.false c.if-n-gt64.false
    c.if-window-gt1000000000.false
