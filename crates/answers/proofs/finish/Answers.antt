-- `finish` meets its contract: at a pairing, where none exists, and at the one end that is left.
use mathlib.Core.Path.{◌∙◌}
use borrow.Author.Rules.{rules}
use mir.Facts.{to_z-of_z}
use mir.Syntax.{w64}
use mir.Val.{SFits}
use Rattle.answers.proofs.CallLaws.{given_paired, given_blocked, given_spent}
use Rattle.answers.proofs.finish.Goals as goal

pub returns-in-Paired : goal.returns-in-Paired
returns-in-Paired c =
    let chosen = c.choose_columns in
    let f : SFits w64 chosen.result = search rules in
    given_paired _ _ _ _ _ c.in-Paired.is chosen.ensures.0 (to_z-of_z f ∙ chosen.ensures.1) (rw c.counted-counts.ensures)

pub returns-in-NoPairing : goal.returns-in-NoPairing
returns-in-NoPairing c =
    given_blocked _ _ _ _ _ c.in-NoPairing.is c.uncovered_lines.ensures c.uncovered_lines-in-NoPairing.ensures (rw c.counted-counts.ensures)

pub returns-in_default : goal.returns-in_default
returns-in_default c = given_spent _ _ _ _ _ c.args.run.next c.requires.ended c.in_default.not-Paired c.in_default.not-NoPairing (rw c.counted-counts.ensures)
