-- A step of a walk over a set of lines: the lowest is met and taken out, until none is left.
use Rattle.std.specs.Prelude.{◌≡◌, ◌≢◌, ℕ, Option, MatchOption}
use Rattle.lines.specs.First.{first}
use Rattle.lines.specs.Sets.{has, without}

-- of a word, the step met this line and left that
pub record Meets (before line after : ℕ) : Type 0 where
  pub some : before ≢ 0
  pub lowest : line ≡ first (has before) 64
  pub left : after ≡ without before (first (has before) 64)

abbrev pub Step : ℕ → Option ℕ → ℕ → Type 0
Step before met after = MatchOption met ((before ≡ 0) × (after ≡ 0)) (λ line. Meets before line after)
