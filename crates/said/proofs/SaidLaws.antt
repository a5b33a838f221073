-- What the code reads of each line is what its record says.
use mathlib.Core.Path.{◌≡◌, sym, ap, fun_ext, ◌∙◌}
use mathlib.Core.Bool.{cond}
use mathlib.Core.List.{List}
use Prim.Native.Nat.{ℕ, ◌≤◌, ◌<◌}
use native.Mathlib.Omega.{arith}
use lib.Dec.{ltb}
use lib.ListN.{length, get_or}
use borrow.Author.Tests.{lt-ltb}
use Rattle.lines.specs.Square.{each}
use Rattle.lines.proofs.Squares.{each_at}
use Rattle.judgement.specs.Scan as D
use Rattle.said.specs.Asks.{Readable}
use Rattle.said.specs.Said.{said_in, said}
use Rattle.judgement.proofs.ScanLaws.{accepted_filled, accepted_consistent}

-- ---- lists by their places

-- a line of an accepted file, where there is room for it
pub said_at : (f : List ℕ → D.Scan → ℕ → ℕ) (file room : List ℕ) {s : D.Scan} → D.judged file ≡ D.accepted s → (i : ℕ) → i < s.n → i < length room
    → get_or (said f file room) i 0 ≡ f file s i
unfolding said said_in
said_at f file room e i h l = rw e (each_at 0 _ room i l ∙ rw (lt-ltb i _ h))

-- ---- by the verdict

-- at a refusal the room is as it was
pub said_refused : (f : List ℕ → D.Scan → ℕ → ℕ) (file room : List ℕ) {number place : ℕ} → D.refused number place ≡ D.judged file → room ≡ said f file room
unfolding said said_in
said_refused f file room e = ap (said_in (f file) room) e

module _ (file : List ℕ) {s : D.Scan} (e : D.accepted s ≡ D.judged file) where
  -- the records of the rows, and of the columns, lie within the file
  pub rows_readable : (size : ℕ) → size ≤ 9 → {offsets : List ℕ} → offsets ≡ s.fragments → Readable file size offsets
  rows_readable size h same = rw same (record { inside = λ i l. omega (arith, (accepted_consistent file (sym e)).rows.inside i l) })

  pub columns_readable : (size : ℕ) → size ≤ 7 → {offsets : List ℕ} → offsets ≡ s.events → Readable file size offsets
  columns_readable size h same = rw same (record { inside = λ i l. omega (arith, (accepted_consistent file (sym e)).columns.inside i l) })

  -- the number g behind each offset is what f says of the row, and of the column
  module _ (f : List ℕ → D.Scan → ℕ → ℕ) (g : List ℕ → ℕ → ℕ) where
    pub row_said : ((d : D.Scan) (i : ℕ) → f file d i ≡ g file (get_or d.fragments i 0)) → {offsets : List ℕ} → offsets ≡ s.fragments → (room : List ℕ) {out : List ℕ}
        → out ≡ each (λ i x. cond (ltb i (length offsets)) (g file (get_or offsets i 0)) x) room → out ≡ said f file room
    unfolding said said_in
    row_said is same room o =
        o ∙ rw (same, (accepted_filled file (sym e)).rows) (ap (λ h. each (λ i x. cond (ltb i s.n) (h i) x) room) (fun_ext (λ i. sym (is s i)))) ∙ ap (said_in (f file) room) e

    pub column_said : ((d : D.Scan) (i : ℕ) → f file d i ≡ g file (get_or d.events i 0)) → {offsets : List ℕ} → offsets ≡ s.events → (room : List ℕ) {out : List ℕ}
        → out ≡ each (λ i x. cond (ltb i (length offsets)) (g file (get_or offsets i 0)) x) room → out ≡ said f file room
    unfolding said said_in
    column_said is same room o =
        o ∙ rw (same, (accepted_filled file (sym e)).columns) (ap (λ h. each (λ i x. cond (ltb i s.n) (h i) x) room) (fun_ext (λ i. sym (is s i)))) ∙ ap (said_in (f file) room) e
