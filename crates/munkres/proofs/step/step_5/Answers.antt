-- `munkres::step_5` meets its contract: each callee ensures one part of `step5`, and the places of the path that was found can be flipped.
use Rattle.steps.specs.Steps.{step5}
use Rattle.matrices.proofs.Walk.{path_flips}
use Rattle.munkres.proofs.step.step_5.Goals as goal

pub toggle_path-requires : goal.toggle_path-requires
toggle_path-requires c =
    let p = c.requires in
    path_flips _ _ _ _ _ p.marks_square p.ends c.find_path-path.ensures.whole

pub augmenting-requires : goal.augmenting-requires
augmenting-requires c =
    c.requires.more

pub returns : goal.returns
unfolding step5
returns c =
    rw (c.augmenting.ensures, c.clear_primes.ensures, c.toggle_path.ensures, c.find_path-path.ensures.whole)
