-- `stars::put_mark` meets its contract.
use native.Mathlib.Omega.{arith}
use borrow.Author.Tests.{lt-ltb, le-ltb}
use Rattle.lines.proofs.Squares.{place_lt}
use Rattle.starred.specs.Written.{with_mark}
use borrow.Author.Rules.{rules}
use Rattle.starred.proofs.stars.put_mark.Goals as goal

pub overflow_mul-marks : goal.overflow_mul-marks
overflow_mul-marks c =
    let p = place_lt _ _ _ c.requires.1 c.if-column-n.true in omega arith

pub overflow_add-marks : goal.overflow_add-marks
overflow_add-marks c =
    let p = place_lt _ _ _ c.requires.1 c.if-column-n.true in omega arith

pub bounds-marks-row : goal.bounds-marks-row
bounds-marks-row c =
    let p = place_lt _ _ _ c.requires.1 c.if-column-n.true in search rules

pub returns-then-column-n : goal.returns-then-column-n
unfolding with_mark
returns-then-column-n c = rw (lt-ltb _ _ c.if-column-n.true)

pub returns-else-column-n : goal.returns-else-column-n
unfolding with_mark
returns-else-column-n c = rw (le-ltb _ _ c.if-column-n.false)
