-- What the promise of `pair_case` gives the lists: at most 64 rows, and a column for each.
use mathlib.Core.Path.{◌≡◌, refl, ap}
use mathlib.Core.Bool.{true}
use mathlib.Core.List.{List}
use Prim.Native.Nat.{ℕ, ◌≤◌, ◌<◌}
use native.Mathlib.Omega.{arith}
use lib.ListN.{get_or}
use lib.Seq.{get_or-take}
use Rattle.pairing.specs.declared.Pairs.{Pairs}
use Rattle.storm_case.specs.Scan.{Judged, more, refused, accepted, judged}
use Rattle.pairing.specs.Pair.{Loan, enough_room, front, PairPromise}
use Rattle.storm_case.proofs.ScanLaws.{never_more, accepted_filled, refused_some}
use Rattle.listing.specs.Listed.{Listed}

module _ {file : List ℕ} {before : Loan} {p : Pairs} {after : Loan} (x : PairPromise file before p after) (room : enough_room before ≡ true) where
  pub few_rows : p.n ≤ 64
  few_rows = go (judged file) refl
    where
      go : (j : Judged) → judged file ≡ j → p.n ≤ 64
      go (more s) e = absurd (never_more file e)
      go (refused number place) e = rw (ap (λ (q : Pairs). q.n) (x.unread room number place e).0) (omega arith)
      go (accepted s) e = rw (ap (λ (q : Pairs). q.n) (x.solved room s e).solved.given) (accepted_filled file e).small

  pub listed : p.number ≡ 0 → Listed p.n after.rest.columns
  unfolding front
  listed paired = record { small = few_rows; below = go (judged file) refl }
    where
      go : (j : Judged) → judged file ≡ j → (row : ℕ) → row < p.n → get_or after.rest.columns row 0 < p.n
      go (more s) e row h = absurd (never_more file e)
      go (refused number place) e row h =
          let same : p.number ≡ number = ap (λ (q : Pairs). q.number) (x.unread room number place e).0 in
          absurd (omega (arith, refused_some file e))
      go (accepted s) e row h =
          let size : p.n ≡ s.n = ap (λ (q : Pairs). q.n) (x.solved room s e).solved.given in
          let inside : row < s.n = omega arith in
          rw (size, ← (get_or-take s.n after.rest.columns row 0 inside)) (((x.solved room s e).about.pairing paired).pairing.below row inside)
