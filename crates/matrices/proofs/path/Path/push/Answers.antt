-- `Path::push` meets its contract: the places recorded, and one place more.
use mathlib.Core.Path.{ap, ◌∙◌}
use mathlib.Core.List.{◌++◌, ◌∷◌, []}
use native.Mathlib.Omega.{arith}
use Rattle.matrices.proofs.Zips.{recorded, zipped_more}
use Rattle.matrices.proofs.path.Path.push.Goals as goal

pub bounds-self-inside-self-inside : goal.bounds-self-inside-self-inside
bounds-self-inside-self-inside c = omega (arith, c.requires, recorded _ _ _ c.self.view_is)

pub bounds-self-inside-self-inside-2 : goal.bounds-self-inside-self-inside-2
bounds-self-inside-self-inside-2 c = omega (arith, c.requires, recorded _ _ _ c.self.view_is)

pub invariant_of-self : goal.invariant_of-self
invariant_of-self c = omega (arith, c.requires, recorded _ _ _ c.self.view_is)

pub returns : goal.returns
returns c =
    let here = c.self.inside in
    zipped_more here.rows here.columns here.count c.args.row c.args.column
    (omega (arith, c.requires, recorded _ _ _ c.self.view_is, c.self.told.0))
    (omega (arith, c.requires, recorded _ _ _ c.self.view_is, c.self.told.1))
    ∙ ap (λ places. places ++ (c.args.row, c.args.column) ∷ []) c.self.view_is
