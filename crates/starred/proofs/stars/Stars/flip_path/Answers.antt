-- `Stars::flip_path` walks the path and flips it (`Flipping`).
use mathlib.Core.Path.{refl}
use Prim.Native.Nat.{◌<◌}
use native.Mathlib.Omega.{arith}
use Rattle.starred.proofs.Flips.{flipping_start, flipping_place, flipping_end, flipping_next, flipping_out}
use Rattle.starred.proofs.stars.Stars.flip_path.Goals as goal
use Rattle.starred.proofs.stars.Stars.flip_path.Goals.{In-loop-met}

-- the path stands inside the square
inside : (c : In-loop-met) → (c.loop-met.here < 64) × (c.loop-met.there < 64)
inside c = let p = flipping_place _ _ _ _ _ _ c.loop-met.invariant.0 (omega arith) in (omega (arith, p.0, c.requires.most), omega (arith, p.1, c.requires.most))

pub offset_bounds-self-there : goal.offset_bounds-self-there
offset_bounds-self-there c = let p = inside (goal.at.offset_bounds-self-there c).In-loop-met in omega arith

pub bounds-self-there : goal.bounds-self-there
bounds-self-there c = let p = inside (goal.at.bounds-self-there c).In-loop-met in omega arith

pub offset_bounds-self-here : goal.offset_bounds-self-here
offset_bounds-self-here c = let p = inside (goal.at.offset_bounds-self-here c).In-loop-met in omega arith

pub bounds-self-here : goal.bounds-self-here
bounds-self-here c = let p = inside (goal.at.bounds-self-here c).In-loop-met in omega arith

pub offset_bounds-self-there-in-loop-met : goal.offset_bounds-self-there-in-loop-met
offset_bounds-self-there-in-loop-met c = let p = inside (goal.at.offset_bounds-self-there-in-loop-met c).In-loop-met in omega arith

pub bounds-self-there-in-loop-met : goal.bounds-self-there-in-loop-met
bounds-self-there-in-loop-met c = let p = inside (goal.at.bounds-self-there-in-loop-met c).In-loop-met in omega arith

pub returns-then-n-owner-clause-flipped : goal.returns-then-n-owner-clause-flipped
returns-then-n-owner-clause-flipped c = rw c.loop-met.invariant.1 at (flipping_end _ _ _ _ _ _ c.loop-met.invariant.0 (omega arith) c.if-n-owner.true)

pub loop-met-init : goal.loop-met-init
loop-met-init c = (flipping_start _ _ _ _ _ _ c.requires.follows, refl)

pub loop-met-preserved : goal.loop-met-preserved
loop-met-preserved c = (flipping_next _ _ _ _ _ _ c.loop-met.invariant.0 (omega arith) (omega (arith, c.if-n-owner.false)), c.loop-met.invariant.1)

pub returns-clause-flipped : goal.returns-clause-flipped
returns-clause-flipped c = rw c.loop-met.invariant.1 at (flipping_out _ _ _ _ _ _ c.loop-met.invariant.0 (omega arith))
