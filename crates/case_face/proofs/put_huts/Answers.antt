-- `put_huts` leaves the room as it is at 20, and else fills it.
use Rattle.std.proofs.Common.{sym, ◌∙◌}
use Rattle.case_face.proofs.HutLaws.{huts_kept, huts_put}
use Rattle.case_face.proofs.put_huts.Goals as goal

pub returns-then-number : goal.returns-then-number
returns-then-number c = huts_put _ _ _ (λ e. c.if-number.true (e ∙ sym c.number.ensures)) c.huts_of.ensures

pub returns-else-number : goal.returns-else-number
returns-else-number c = huts_kept _ _ _ (c.if-number.false ∙ c.number.ensures)
