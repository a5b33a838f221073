-- The code's scan and its answers as the definition's.
use Rattle.std.specs.Prelude.{◌≡◌, ◌≢◌, ◌⊎◌, List, [], ◌∷◌, ◌++◌, ℕ, length, Result, Ok, Err}
use Rattle.records.specs.declared.Kind.{Kind}
use Rattle.records.specs.declared.Kind.TheVariants.{Size, Fragment, Event, End}
use Rattle.judgement.specs.Scan as D
use Rattle.judgement.specs.Refused.{number_of, refusal}
use Rattle.judgement.specs.Listed.{listed}
use Rattle.judgement.specs.declared.refusal.Rule.TheVariants.{Order, Count}
use Rattle.judgement.specs.declared.refusal.Refusal.{Refusal}
use Rattle.judgement.specs.declared.scan.Scan.{Scan}

abbrev pub view_scan : Scan → D.Scan
view_scan s = D.scan_with s.at s.n s.window (listed s.fragments) (listed s.events)

abbrev pub view_refusal : Refusal → D.Judged
view_refusal e = D.refused (number_of e.rule) e.place

-- after a record that is not the end, and after the end, which is that of the whole file
abbrev pub goes_on : Result (Unit {0}) Refusal → Scan → D.Judged
goes_on (Ok done) s = D.more (view_scan s)
goes_on (Err e) s = view_refusal e

abbrev pub ended : Result (Unit {0}) Refusal → Scan → D.Judged
ended (Ok done) s = D.accepted (view_scan s)
ended (Err e) s = view_refusal e

-- after a record of the kind that is given
abbrev pub view_judged : Result Kind Refusal → Scan → D.Judged
view_judged (Ok Size) s = D.more (view_scan s)
view_judged (Ok Fragment) s = D.more (view_scan s)
view_judged (Ok Event) s = D.more (view_scan s)
view_judged (Ok End) s = D.accepted (view_scan s)
view_judged (Err e) s = view_refusal e

-- ---- what one line does

-- a fragment or an event: refused, and nothing is kept; or its offset is kept
abbrev pub JudgesLine : ℕ → ℕ → List ℕ → Result (Unit {0}) Refusal → List ℕ → Type 0
JudgesLine n at before (Ok done) after = (n ≢ 0) × (length before ≢ n) × (after ≡ before ++ at ∷ [])
JudgesLine n at before (Err e) after = (after ≡ before) × (((n ≡ 0) × (e ≡ refusal Order at)) ⊎ ((n ≢ 0) × (length before ≡ n) × (e ≡ refusal Count at)))
