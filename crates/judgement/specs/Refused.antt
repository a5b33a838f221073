-- The rules' numbers, and a refusal.
use Rattle.std.specs.Prelude.{ℕ}
use Rattle.judgement.specs.declared.refusal.Rule.{Rule}
use Rattle.judgement.specs.declared.refusal.Rule.TheVariants.{Room, Cut, Unknown, Order, Count, Range, Behind}
use Rattle.judgement.specs.declared.refusal.Refusal.{Refusal}

abbrev pub number_of : Rule → ℕ
number_of Room = 20
number_of Cut = 21
number_of Unknown = 22
number_of Order = 23
number_of Count = 24
number_of Range = 25
number_of Behind = 26

abbrev pub refusal : Rule → ℕ → Refusal
refusal rule place = record { rule = rule; place = place }
