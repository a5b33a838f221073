-- `judge_end` meets its contract, test by test (`ScanLaws`, `ViewLaws`).
use Rattle.std.proofs.Common.{sym, ◌∙◌}
use Rattle.judgement.proofs.ScanLaws.{end_early, end_late, end_good, end_few_rows, end_few_columns}
use Rattle.judgement.proofs.scan.Scan.judge_end.Goals as goal
use Rattle.judgement.proofs.scan.Scan.judge_end.Goals.{then-len-self-via-then-len-self, then-len-self-via-else-len-self+then-len-self-2}

pub returns-then-self-eq0 : goal.returns-then-self-eq0
returns-then-self-eq0 c = rw c.at.ensures (end_early _ _ c.if-self-eq0.true)

pub returns-then-len-self : goal.returns-then-len-self
returns-then-len-self c = rw c.at-then-len-self.ensures
    (elim c.then-len-self.branch [
      | then-len-self-via-then-len-self w ↦ end_few_rows _ _ c.if-self-eq0.false (λ q. w.if-len-self.true (c.len.ensures ∙ q))
      | then-len-self-via-else-len-self+then-len-self-2 w ↦ end_few_columns _ _ c.if-self-eq0.false (sym c.len.ensures ∙ w.if-len-self.false)
          (λ q. w.if-len-self-2.true (w.len-else-len-self.ensures ∙ q))
    ])

pub returns-then-self-file : goal.returns-then-self-file
returns-then-self-file c =
    rw c.at-then-self-file.ensures
    (end_late _ _ c.if-self-eq0.false (sym c.len.ensures ∙ c.if-len-self.false) (sym c.len-else-len-self.ensures ∙ c.if-len-self-2.false) c.if-self-file.true)

pub returns : goal.returns
returns c =
    end_good _ _ c.if-self-eq0.false (sym c.len.ensures ∙ c.if-len-self.false) (sym c.len-else-len-self.ensures ∙ c.if-len-self-2.false) c.if-self-file.false
