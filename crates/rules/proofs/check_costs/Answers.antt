-- `check_costs` is rule 5.
use mathlib.Core.Path.{sym, ◌∙◌}
use Rattle.rules.proofs.JudgeLaws.{cell_found, cells_clear}
use Rattle.rules.proofs.check_costs.Goals as goal

pub returns-in-Some : goal.returns-in-Some
returns-in-Some c = cell_found _ _ _ (sym c.in-Some.is ∙ c.find_bad_cost.ensures)

pub returns-in-None : goal.returns-in-None
returns-in-None c = cells_clear _ _ _ (sym c.in-None.is ∙ c.find_bad_cost.ensures)
