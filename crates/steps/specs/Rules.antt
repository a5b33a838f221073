-- Rules in their order: the first that applies gives its number and its place.
use Rattle.std.specs.Prelude.{Bool, cond, List, [], ◌∷◌, ℕ}
use Rattle.lines.specs.First.{first, any}

pub record Rule : Type 0 where
  pub number : ℕ
  pub applies : Bool
  pub place : ℕ

-- a rule whose place is 0
abbrev pub rule : ℕ → Bool → Rule
rule number applies = record { number = number; applies = applies; place = 0 }

-- a rule that looks through cells: it applies if one of them is bad, and its place is the lowest such cell
abbrev pub cell_rule : ℕ → (ℕ → Bool) → ℕ → Rule
cell_rule number bad cells = record { number = number; applies = any bad cells; place = first bad cells }

-- the verdict of a list of rules; `otherwise` where none applies
unfoldable pub by_rules : {A : Type 0} → (ℕ → ℕ → A) → List Rule → A → A
by_rules refused [] otherwise = otherwise
by_rules refused (r ∷ rs) otherwise = cond r.applies (refused r.number r.place) (by_rules refused rs otherwise)
