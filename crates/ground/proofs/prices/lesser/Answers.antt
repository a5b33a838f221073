-- `prices::lesser` meets its contract, by the cases of `lesser_of`.
use mathlib.Core.Path.{◌≡◌, refl}
use mathlib.Core.Bool.{Bool, true, false, cond}
use lib.IntN.{ℤ}
use mir.Syntax.{w64}
use mir.Val.{SFits}
use mir.Facts.{to_z-of_z}
use borrow.Author.Rules.{rules}
use Rattle.std.specs.Prelude.{Some}
use Rattle.ground.specs.Least.{lesser_of}
use Rattle.ground.proofs.prices.lesser.Goals as goal

either : (b : Bool) (x y : ℤ) → Some (cond b x y) ≡ cond b (Some x) (Some y)
either true x y = refl
either false x y = refl

pub returns-in-Some : goal.returns-in-Some
unfolding lesser_of
returns-in-Some c =
    let f : SFits w64 c.in-Some.best = search rules in
    let m : SFits w64 c.min.result = search rules in
    let e = rw (to_z-of_z f, to_z-of_z c.ranges.value) at c.min.ensures.value in
    rw (c.in-Some.is, to_z-of_z m, e) (either _ _ _)

pub returns-in-None : goal.returns-in-None
unfolding lesser_of
returns-in-None c = search rules
