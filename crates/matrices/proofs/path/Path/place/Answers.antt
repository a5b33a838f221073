-- `Path::place` meets its contract: place k is row and column number k.
use mathlib.Core.Path.{sym, ap, ◌∙◌}
use native.Mathlib.Omega.{arith}
use lib.ListN.{get_or}
use Rattle.matrices.proofs.Zips.{recorded, zipped_at}
use Rattle.matrices.proofs.path.Path.place.Goals as goal

pub offset_bounds-rows-k : goal.offset_bounds-rows-k
offset_bounds-rows-k c = omega (arith, c.requires, recorded _ _ _ c.self.view_is, c.self.invariant)

pub offset_bounds-columns-k : goal.offset_bounds-columns-k
offset_bounds-columns-k c = omega (arith, c.requires, recorded _ _ _ c.self.view_is, c.self.invariant)

pub bounds-rows-k : goal.bounds-rows-k
bounds-rows-k c = omega (arith, c.requires, recorded _ _ _ c.self.view_is, c.self.invariant)

pub bounds-columns-k : goal.bounds-columns-k
bounds-columns-k c = omega (arith, c.requires, recorded _ _ _ c.self.view_is, c.self.invariant)

pub returns : goal.returns
returns c =
    sym (zipped_at _ _ _ c.args.k (omega (arith, c.requires, recorded _ _ _ c.self.view_is))) ∙ ap (λ places. get_or places c.args.k (0, 0)) c.self.view_is
