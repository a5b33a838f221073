-- `put` meets its contract: as much of the piece as fits stands behind the used part.
use mathlib.Core.Path.{refl}
use Rattle.text.proofs.PutLaws.{put_behind}
use Rattle.text.proofs.Text.put.Goals as goal

pub returns : goal.returns
returns c =
    let text = c.args.self.now in
    record { same_room = refl; puts = put_behind text.room.now text.used _ text.inside c.min-count.result c.min-count.ensures _ c.copy_from_slice.ensures.after }
