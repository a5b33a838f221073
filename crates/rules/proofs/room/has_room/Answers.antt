-- `has_room` meets its contract: equal rooms have equal lengths.
use mathlib.Core.Path.{◌∙◌}
use Rattle.rules.proofs.Rooms.{tested}
use Rattle.rules.proofs.room.has_room.Goals as goal

pub returns : goal.returns
returns c =
    let a = c.args in
    rw c.of.ensures at c.eq.ensures ∙ tested a.cells a.lines a.room.working a.room.marks a.room.columns a.room.row_prices a.room.column_prices
