-- `step` meets its contract: each arm is one step's own equation (`Arms`).
use mathlib.Core.Path.{◌≡◌, ap}
use mathlib.Core.Logic.{◌⊎◌, inl, inr}
use mathlib.Core.Bool.{true}
use Rattle.steps.specs.Counts.{over}
use Rattle.ground.specs.declared.run.Next.{Next}
use Rattle.ground.specs.declared.run.Next.TheVariants.{Paired, NoPairing, Unfinished}
use Rattle.ground.specs.View.{view_next}
use Rattle.munkres.proofs.AskLaws.{at_step3, at_step4, at_step5, at_step6}
use Rattle.ground.proofs.Arms.{arm_3, arm_4, arm_5, arm_6, arm_end}
use Rattle.munkres.proofs.step.step.Goals as goal

ended : {next : Next} → (next ≡ Paired) ⊎ ((next ≡ NoPairing) ⊎ (next ≡ Unfinished)) → over (view_next next) ≡ true
ended (inl e) = ap (λ x. over (view_next x)) e
ended (inr (inl e)) = ap (λ x. over (view_next x)) e
ended (inr (inr e)) = ap (λ x. over (view_next x)) e

pub step_3-requires : goal.step_3-requires
step_3-requires c = at_step3 c.requires (ap view_next c.in-Step3.is)

pub step_4-requires : goal.step_4-requires
step_4-requires c = at_step4 c.requires (ap view_next c.in-Step4.is)

pub step_5-requires : goal.step_5-requires
step_5-requires c = at_step5 c.requires _ _ (ap view_next c.in-Step5.is)

pub step_6-requires : goal.step_6-requires
step_6-requires c = at_step6 c.requires (ap view_next c.in-Step6.is)

pub returns-in-Step3 : goal.returns-in-Step3
returns-in-Step3 c = arm_3 _ _ _ _ (ap view_next c.in-Step3.is) c.step_3.ensures

pub returns-in-Step4 : goal.returns-in-Step4
returns-in-Step4 c = arm_4 _ _ _ _ (ap view_next c.in-Step4.is) c.step_4.ensures

pub returns-in-Step5 : goal.returns-in-Step5
returns-in-Step5 c = arm_5 _ _ _ _ (ap view_next c.in-Step5.is) c.step_5.ensures

pub returns-in-Step6 : goal.returns-in-Step6
returns-in-Step6 c = arm_6 _ _ _ _ (ap view_next c.in-Step6.is) c.step_6.ensures

pub returns-in-Paired : goal.returns-in-Paired
returns-in-Paired c = arm_end _ _ _ _ (ended c.in-Paired.is)
