-- `take_up` makes keys and least key anew (`TakenUp`), and hands on the keys of the n rows.
use mathlib.Core.Path.{◌≡◌, refl, ◌∙◌}
use mathlib.Core.List.{◌++◌}
use native.Mathlib.Omega.{arith}
use Prim.Native.Nat.{ℕ, ◌<◌}
use lib.IntN.{pos}
use lib.ListN.{get_or, drop, get_or-append}
use Rattle.std.proofs.lemmas.List.{get_or-take, length-take}
use Rattle.ground.proofs.Wide.{back64}
use Rattle.quick_steps.proofs.WayLaws.{opens_same}
use Rattle.quick_steps.proofs.take_up.Goals as goal

pub returns : goal.returns
returns c =
    let n = c.args.priced.n in
    let safe = c.requires.safe in
    let made = c.open_uncovered-best.new.self.key in
    let handed = c.copy_from_slice.new.self in
    let front : (i : ℕ) → i < n → get_or (handed ++ drop n c.args.key.now) i (pos 0) ≡ get_or made i (pos 0) = λ i hi.
    get_or-append handed (drop n c.args.key.now) (pos 0) i (rw c.copy_from_slice.ensures.after (omega (arith, hi, length-take n made, safe.word.most)))
    ∙ rw c.copy_from_slice.ensures.after (get_or-take n made i (pos 0) hi) in
    record {
      same = refl;
      risen = refl;
      opens = opens_same _ _ _ made _ front (rw (back64 _ c.open_uncovered-best.type_inv) c.open_uncovered-best.ensures.opens);
    }
