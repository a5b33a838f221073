-- Laws of a list of rules: one that applies decides, one that does not is passed over; and what is true of the verdict.
use mathlib.Core.Path.{◌≡◌}
use mathlib.Core.Bool.{true, false, not}
use mathlib.Core.List.{List, [], ◌∷◌}
use Prim.Native.Nat.{ℕ}
use lib.Dec.{T}
use Rattle.lines.proofs.Tests.{cond_ind}
use Rattle.steps.specs.Rules.{Rule, by_rules}

infixr 60 ◌⨾◌
-- Q is true of every rule of a list
pub data Every (Q : Rule → Type 0) : List Rule → Type 0 where
  all : Every Q []
  ◌⨾◌ : {r : Rule} {rs : List Rule} → Q r → Every Q rs → Every Q (r ∷ rs)

-- none of them applies
abbrev pub Clear : List Rule → Type 0
Clear = Every (λ r. T (not r.applies))

module _ {A : Type 0} (refused : ℕ → ℕ → A) where
  module _ (r : Rule) (rs : List Rule) (otherwise : A) where
    pub applies : r.applies ≡ true → by_rules refused (r ∷ rs) otherwise ≡ refused r.number r.place
    unfolding by_rules
    applies e = rw e

    pub passes : r.applies ≡ false → by_rules refused (r ∷ rs) otherwise ≡ by_rules refused rs otherwise
    unfolding by_rules
    passes e = rw e

  -- what every rule brings when it applies, and what comes where none does
  pub ruled : (P : A → Type 0) (Q : Rule → Type 0) (otherwise : A) → ((r : Rule) → Q r → T r.applies → P (refused r.number r.place))
      → (rs : List Rule) → Every Q rs → (Clear rs → P otherwise) → P (by_rules refused rs otherwise)
  unfolding by_rules
  ruled P Q otherwise bad [] all good = good all
  ruled P Q otherwise bad (r ∷ rs) (q ⨾ qs) good = cond_ind P r.applies _ _ (bad r q) (λ t. ruled P Q otherwise bad rs qs (λ c. good (t ⨾ c)))
