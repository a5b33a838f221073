-- What the offsets of one kind are as a list.
use Rattle.std.specs.Prelude.{List, ℕ, take}
use Rattle.judgement.specs.declared.offsets.Offsets.{Offsets}

abbrev pub listed : Offsets → List ℕ
listed o = take o.count o.places
