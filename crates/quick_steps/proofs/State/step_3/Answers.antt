-- `State::step_3` goes one of two ways (`Crossed`).
use mathlib.Core.Path.{◌≡◌, refl, ap, ◌∙◌}
use mathlib.Core.Logic.{◌≢◌}
use mathlib.Core.List.{List}
use Prim.Native.Nat.{ℕ}
use lib.Dec.{ltb}
use lib.IntN.{ℤ}
use lib.ListN.{get_or}
use Rattle.lines.specs.Count.{count}
use Rattle.ground.proofs.Wide.{back64}
use Rattle.steps.specs.Steps as S
use Rattle.ground.specs.View.{view}
use Rattle.starred.specs.Columns.{starred}
use Rattle.quick_steps.specs.Ways.{part}
use Rattle.quick_steps.specs.Asks.{ForStep3}
use Rattle.keyed.specs.Asks.{OpensColumns}
use Rattle.quick_steps.proofs.State.step_3.Goals as goal

-- the set of columns as the code holds it
opens_asks : {n columns : ℕ} {keys row_prices column_prices : List ℤ} {star owner cheapest : List ℕ}
    → ForStep3 n keys row_prices column_prices star owner cheapest → columns ≡ starred n owner → count (λ i. ltb (get_or star i 0) n) n ≢ n
    → OpensColumns n columns keys row_prices column_prices cheapest
opens_asks p e q = record { safe = p.safe; some = rw e (p.some q); known = rw e p.known }

pub returns : goal.returns
returns c =
    let run = view c.args.self.run in
    let e = c.starred_columns-columns.ensures in
    part (λ q. c.if-count_stars-priced.false (c.count_stars.ensures ∙ q))
    (c.crossing-2.ensures ∙ ap (λ x. S.run_with run.rows x run.adjustments run.primes run.augmentations S.Step4) e)
    refl
    (rw (back64 _ c.open_columns.type_inv) (rw e at c.open_columns.ensures.opens))
    (rw e at c.open_columns.ensures.known)
