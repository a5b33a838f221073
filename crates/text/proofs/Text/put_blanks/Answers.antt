-- `put_blanks` meets its contract: as many of the blanks as fit stand behind the used part.
use mathlib.Core.Path.{◌≡◌, refl, sym, ap, ◌∙◌}
use Prim.Native.Nat.{◌+◌, ◌-◌}
use native.Mathlib.Omega.{arith}
use lib.ListN.{length, replicate, take, drop, length-take, length-drop}
use Rattle.text.specs.Numbers.{blanks}
use Rattle.text.proofs.NumberLaws.{length_blanks, take_blanks}
use Rattle.text.proofs.PutLaws.{put_behind}
use Rattle.text.proofs.Text.put_blanks.Goals as goal

pub returns : goal.returns
unfolding blanks
returns c =
    let text = c.args.self.now in
    let wanted = c.args.wanted in
    let count = c.min-count.result in
    let filled : length (take (text.used + count - text.used) (drop text.used text.room.now)) ≡ count =
    simp (length-take, length-drop) (omega (arith, text.inside, c.min-count.ensures)) in
    let blank = c.fill.ensures.after (λ y e. e) ∙ ap (λ n. replicate n 32) filled ∙ sym (take_blanks count wanted (omega (arith, c.min-count.ensures))) in
    record { same_room = refl; puts = put_behind text.room.now text.used (blanks wanted) text.inside count (rw (length_blanks wanted) c.min-count.ensures) _ blank }
