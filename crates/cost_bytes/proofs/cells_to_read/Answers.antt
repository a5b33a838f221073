-- `cells_to_read` counts the costs of n rows where the bytes are exactly theirs.
use native.Mathlib.Omega.{arith}
use Rattle.cost_bytes.proofs.ByteLaws.{readable_large, readable_none, readable_all}
use Rattle.cost_bytes.proofs.cells_to_read.Goals as goal

pub returns-then-n-gt64 : goal.returns-then-n-gt64
returns-then-n-gt64 c = readable_large _ _ c.if-n-gt64.true

pub returns-then-bytes-cells : goal.returns-then-bytes-cells
returns-then-bytes-cells c = readable_none _ _ c.if-n-gt64.false (λ e. omega arith)

pub returns : goal.returns
returns c = readable_all _ _ c.if-n-gt64.false (omega arith)
