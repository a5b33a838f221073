-- `step` is one step of the machine that the state shows (`Turned`).
use mathlib.Core.Path.{◌≡◌, refl}
use mathlib.Core.Bool.{true}
use Rattle.steps.specs.Counts.{over}
use Rattle.ground.specs.View.{view_next}
use Rattle.ground.specs.declared.run.Next.{Next}
use Rattle.ground.specs.declared.run.Next.TheVariants.{Paired, NoPairing, Unfinished}
use Rattle.lines.proofs.Tests.{cases}
use Rattle.quick.proofs.Turns.{turned_3, turned_4, turned_5, turned_6, turned_end}
use Rattle.quick.proofs.AskLaws.{asks_3, asks_4, asks_5, asks_6}
use Rattle.quick.proofs.step.step.Goals as goal

pub step_3-requires : goal.step_3-requires
step_3-requires c =
    asks_3 _ _ _ _ c.args.state _ _ _ _ _ c.requires c.in-Step3.is

pub step_4-requires : goal.step_4-requires
step_4-requires c =
    asks_4 _ _ _ _ c.args.state _ _ _ _ _ c.requires c.in-Step4.is

pub step_5-requires : goal.step_5-requires
step_5-requires c =
    asks_5 _ _ _ _ c.args.state _ _ _ _ _ c.requires _ _ c.in-Step5.is

pub step_6-requires : goal.step_6-requires
step_6-requires c =
    asks_6 _ _ _ _ c.args.state _ _ _ _ _ c.requires c.in-Step6.is

pub returns-in-Step3 : goal.returns-in-Step3
returns-in-Step3 c =
    turned_3 _ _ _ _ c.args.state _ _ _ _ _ c.requires c.in-Step3.is c.step_3.ensures

pub returns-in-Step4 : goal.returns-in-Step4
returns-in-Step4 c =
    turned_4 _ _ _ _ c.args.state _ _ _ _ _ c.requires c.in-Step4.is c.step_4.ensures.star c.step_4.ensures.owner c.step_4.ensures.cheapest c.step_4.ensures.primed

pub returns-in-Step5 : goal.returns-in-Step5
returns-in-Step5 c =
    let made = c.step_5.ensures in
    turned_5 _ _ _ _ c.args.state _ _ _ _ _ c.requires _ _ c.in-Step5.is made.run made.flipped made.prime

pub returns-in-Step6 : goal.returns-in-Step6
returns-in-Step6 c =
    turned_6 _ _ _ _ c.args.state _ _ _ _ _ c.requires c.in-Step6.is c.step_6.ensures

pub returns-in-Paired : goal.returns-in-Paired
returns-in-Paired c =
    let ends : (x : Next) → c.args.state.run.next ≡ x → over (view_next x) ≡ true → over (view_next c.args.state.run.next) ≡ true = λ x e o. rw e o in
    turned_end _ _ _ _ c.args.state _ _ _ _ _ c.requires (cases c.in-Paired.is (λ e. ends Paired e refl) (λ r. cases r (λ e. ends NoPairing e refl) (λ e. ends Unfinished e refl)))
