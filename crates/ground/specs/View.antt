-- The code's run as the steps' own, and what its covering asks.
use Rattle.std.specs.Prelude.{ℕ, ◌+◌, ◌^◌, ◌<◌}
use Rattle.steps.specs.Steps as S
use Rattle.ground.specs.declared.run.Next.{Next}
use Rattle.ground.specs.declared.run.Next.TheVariants.{Step3, Step4, Step5, Step6, Paired, NoPairing, Unfinished}
use Rattle.ground.specs.declared.run.Run.{Run}

abbrev pub view_next : Next → S.Next
view_next Step3 = S.Step3
view_next Step4 = S.Step4
view_next (Step5 i j) = S.Step5 i j
view_next Step6 = S.Step6
view_next Paired = S.Paired
view_next NoPairing = S.NoPairing
view_next Unfinished = S.Unfinished

abbrev pub view : Run → S.Run
view r = S.run_with r.rows r.columns r.adjustments r.primes r.augmentations (view_next r.next)

-- two lines of a word, and one prime more
pub record Covers (row star primes : ℕ) : Type 0 where
  pub row_bit : row < 64
  pub star_bit : star < 64
  pub more : primes + 1 < 2 ^ 32
