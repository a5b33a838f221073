-- `is_answer` says yes only where each field of the answer is said.
use Rattle.std.proofs.Common.{◌≡◌, ◌<◌, ◌^◌, ◌∙◌, arith, ℤ, pos, rules, w64, to_z, of_z}
use lib.Signed.{mag}
use mir.Facts.{to_z-of_z}
use Rattle.lines.proofs.Wide.{back}
use Rattle.calls.proofs.is_answer.Goals as goal

-- an array holds bits, from which a number is read back
read : {there number result : ℤ} → there ≡ to_z w64 (of_z w64 result) → mag result < 2 ^ 63 → result ≡ number → there ≡ number
read e fits is = e ∙ back w64 _ fits ∙ is

pub returns : goal.returns
returns c = λ e.
    let s = c.says.ensures e in
    record {
      number = read (s.says 0 (pos 0) (omega arith)) c.from.type_inv c.from.ensures;
      place = read (s.says 1 (pos 0) (omega arith)) c.cast_signed.type_inv c.cast_signed.ensures;
      adjustments = read (s.says 2 (pos 0) (omega arith)) c.from-2.type_inv c.from-2.ensures;
      primes = read (s.says 3 (pos 0) (omega arith)) c.from-3.type_inv c.from-3.ensures;
      augmentations = read (s.says 4 (pos 0) (omega arith)) c.from-4.type_inv c.from-4.ensures;
      total = s.says 5 (pos 0) (omega arith) ∙ to_z-of_z {w = w64} (search rules);
      block_rows = read (s.says 6 (pos 0) (omega arith)) c.cast_signed-2.type_inv c.cast_signed-2.ensures;
      block_columns = read (s.says 7 (pos 0) (omega arith)) c.cast_signed-3.type_inv c.cast_signed-3.ensures;
    }
