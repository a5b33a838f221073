-- Theorem: what the definitions compute of a file is what the program prints of it.
use mathlib.Core.Path.{◌≡◌, refl, sym, ap, ap₂, ◌∙◌}
use mathlib.Core.List.{List, []}
use mathlib.Core.Option.{Option, none, some, map}
use Prim.Native.Nat.{ℕ, ◌≤◌}
use native.Mathlib.Omega.{arith}
use lib.ListN.{length, take}
use Rattle.steps.specs.declared.Answer.{Answer}
use Rattle.steps.specs.Lent.{Task, Buffers}
use Rattle.steps.specs.Outcome.{Outcome}
use Rattle.steps.specs.Promise.{Promise}
use Rattle.storm_case.specs.Numbers.{AreBytes}
use Rattle.storm_case.specs.Scan.{Judged, more, refused, accepted, judged}
use Rattle.storm_case.proofs.ScanLaws.{never_more}
use Rattle.storm_case.proofs.Decides.{refused_early}
use Rattle.pairing.specs.declared.Pairs.{Pairs}
use Rattle.pairing.specs.Pair.{Loan, fresh, front, paired, asked, PairPromise}
use Rattle.pairing.proofs.Fronts.{fresh_room}
use Rattle.pairing.proofs.OnlyPairs.{OnlyAnswer}
use Rattle.valley.specs.Lines.{lines}
use Rattle.valley.specs.Report.{huts, Reported}
use Rattle.valley.specs.Computed.{solved, printed_of, printed}
use Rattle.valley.proofs.LineLaws.{lines_refused, lines_front}
use Rattle.valley.proofs.Theorems.{whole_text}

-- The law that every outcome of the steps keeps the promise. Only the promise is known here: see `Closed`.
abbrev pub KeepsPromise : Type 0
KeepsPromise = (t : Task) (before : Buffers) (a : Answer) (after : Buffers) → Outcome 64 t before a after → Promise 64 t before a after

-- ---- what an option holds

abbrev held : Option (List ℕ) → List ℕ
held none = []
held (some text) = text

abbrev holds : Option (List ℕ) → ℕ
holds none = 0
holds (some text) = 1

mapped : {A : Type 0} (f : A → List ℕ) (o : Option A) {text : List ℕ} → map f o ≡ some text → (a : A) × (o ≡ some a) × (f a ≡ text)
mapped f none q = let z : ◌≡◌ {A = ℕ} 0 1 = ap holds q in absurd (omega arith)
mapped f (some a) q = (a, refl, ap held q)

-- ---- by the verdict

module _ (only_answer : OnlyAnswer) (keeps : KeepsPromise) (file : List ℕ) {text : List ℕ} (computed : printed file ≡ some text)
    {p : Pairs} {filled : Loan} (x : PairPromise file fresh p filled) where
  abbrev columns : List ℕ
  columns = filled.rest.columns

  pub computed_lines : lines (huts file) p columns ≡ text
  unfolding printed printed_of solved front
  computed_lines = go (judged file) refl computed
    where
      go : (j : Judged) → judged file ≡ j → printed_of file j ≡ some text → lines (huts file) p columns ≡ text
      go (more s) e q = absurd (never_more file e)
      go (refused number place) e q =
          let r = refused_early file e in
          let given = (x.unread fresh_room number place e).0 in
          let n : p.number ≡ number = ap (λ (q : Pairs). q.number) given in
          lines_refused (huts file) p columns (λ z. omega (arith, r.0)) (λ z. omega (arith, r.0))
          ∙ sym (lines_refused (huts file) p [] (λ z. omega (arith, r.0)) (λ z. omega (arith, r.0)))
          ∙ ap (λ q. lines (huts file) q []) given
          ∙ ap held q
      go (accepted s) e q =
          let by = (x.solved fresh_room s e).solved in
          let out = mapped _ (solved (asked file s) (front s.n fresh.rest)) q in
          let same = only_answer _ _ _ _ _ _ by.solver (keeps _ _ _ _ (record { count = 99; exact = out.1 })) in
          lines_front (huts file) p columns
          ∙ ap (λ (q : Pairs). lines (huts file) q (take q.n columns)) by.given
          ∙ ap₂ (λ a (b : Buffers). lines (huts file) (paired s.n s.window a) b.columns) same.0 same.1
          ∙ out.2

-- and the program writes it whole
pub computed_text : OnlyAnswer → KeepsPromise → (file : List ℕ) → AreBytes file → {text : List ℕ} → printed file ≡ some text
    → {out : List ℕ} {r : ℕ} {after : List ℕ} → Reported file out r after → 1024 ≤ length out → take r after ≡ text
computed_text only_answer keeps file bytes computed x room = whole_text file bytes x room ∙ computed_lines only_answer keeps file computed x.promise
