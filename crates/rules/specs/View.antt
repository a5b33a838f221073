-- The code's verdict as the definition's.
use Rattle.std.specs.Prelude.{ℕ, Result, Ok, Err, [], ◌∷◌}
use Rattle.steps.specs.Rules.{Rule, by_rules}
use Rattle.steps.specs.Refusal as R
use Rattle.rules.specs.declared.refusal.Refusal.{Refusal}
use Rattle.rules.specs.declared.refusal.Refusal.TheVariants.{NoRows, TooManyRows, WrongLength, BadMask, BadCost}
use Rattle.rules.specs.declared.refusal.Stop.{Stop}
use Rattle.rules.specs.declared.refusal.Stop.TheVariants.{Refused, DeadRow}
use Rattle.rules.specs.declared.room.Room.{Room}

abbrev pub number_of : Refusal → ℕ
number_of = elim [ NoRows ↦ 1 | TooManyRows ↦ 2 | WrongLength ↦ 3 | BadMask cell ↦ 4 | BadCost cell ↦ 5 ]

abbrev pub place_of : Refusal → ℕ
place_of (BadMask cell) = cell
place_of (BadCost cell) = cell
place_of _ = 0

abbrev pub view_refusal : Refusal → R.Verdict
view_refusal r = R.refused (number_of r) (place_of r)

-- what one rule says, in the code and by the definition
abbrev pub view_rule : Result Unit Refusal → R.Verdict
view_rule (Ok u) = R.accepted
view_rule (Err r) = view_refusal r

abbrev pub alone : Rule → R.Verdict
alone r = by_rules R.refused (r ∷ []) R.accepted

abbrev pub view_stop : Stop → R.Verdict
view_stop (Refused r) = view_refusal r
view_stop (DeadRow row) = R.dead row

abbrev pub view_verdict : Result Unit Stop → R.Verdict
view_verdict (Ok u) = R.accepted
view_verdict (Err s) = view_stop s

-- the room of so many cells and lines
abbrev pub room_for : ℕ → ℕ → Room
room_for cells lines = record { working = cells; marks = cells; columns = lines; row_prices = lines; column_prices = lines }
