-- What one record does: it is refused, or it is a size, a fragment, an event or the end; with all that its tests say.
use mathlib.Core.Path.{◌≡◌, refl}
use mathlib.Core.Logic.{◌≢◌}
use mathlib.Core.Bool.{Bool, true, false, not, cond, ◌&&◌, ◌||◌}
use mathlib.Core.List.{List}
use Prim.Native.Nat.{ℕ, ◌+◌, ◌≤◌}
use native.Mathlib.Omega.{arith}
use lib.Dec.{T, eqb, eqb→eq, ltb, nltb→le}
use lib.ListN.{length, get_or}
use borrow.Author.Tests.{eqb-true, eqb-false, not-false}
use Rattle.lines.proofs.Tests.{T_false, cond_ind, and_left, and_right}
use Rattle.std.specs.Prelude.{Result, Ok, Err}
use Rattle.records.specs.declared.Missing.{Missing}
use Rattle.records.specs.declared.Missing.TheVariants.{Cut, Unknown}
use Rattle.records.specs.Records.{found, Whole}
use Rattle.judgement.specs.Numbers.{u16_at, u32_at}
use Rattle.judgement.specs.Scan as D
use Rattle.records.proofs.RecordLaws.{found_whole, size_fits, fragment_fits, event_fits, kind_between}

-- the number and the place of a refusal
pub record Refusal (s : D.Scan) (number place : ℕ) : Type 0 where
  pub low : 21 ≤ number
  pub high : number ≤ 26
  pub near : place ≤ s.at + 1

pub record IsSize (file : List ℕ) (s : D.Scan) : Type 0 where
  pub kind : get_or file s.at 0 ≡ 1
  pub fits : s.at + 7 ≤ length file
  pub first : s.n ≡ 0
  pub some : u16_at file (s.at + 1) ≢ 0
  pub small : u16_at file (s.at + 1) ≤ 64
  pub low : u32_at file (s.at + 3) ≤ 1_000_000_000

-- a fragment or an event: its kind, how many bytes it takes, and how many there were
pub record IsLine (file : List ℕ) (s : D.Scan) (kind size count : ℕ) : Type 0 where
  pub kind_is : get_or file s.at 0 ≡ kind
  pub fits : s.at + size ≤ length file
  pub some : s.n ≢ 0
  pub fewer : count ≢ s.n

pub record IsEnd (file : List ℕ) (s : D.Scan) : Type 0 where
  pub kind : get_or file s.at 0 ≡ 4
  pub some : s.n ≢ 0
  pub rows : length s.fragments ≡ s.n
  pub columns : length s.events ≡ s.n
  pub last : s.at + 1 ≡ length file

pub data Does (file : List ℕ) (s : D.Scan) : D.Judged → Type 0 where
  refuses : (number place : ℕ) → Refusal s number place → Does file s (D.refused number place)
  sizes : IsSize file s → Does file s (D.more (D.with_size s (u16_at file (s.at + 1)) (u32_at file (s.at + 3))))
  adds_row : IsLine file s 2 9 (length s.fragments) → Does file s (D.more (D.with_row s))
  adds_column : IsLine file s 3 7 (length s.events) → Does file s (D.more (D.with_column s))
  ends : IsEnd file s → Does file s (D.accepted s)

module _ (file : List ℕ) (s : D.Scan) where
  here : (number : ℕ) → 21 ≤ number → number ≤ 26 → Does file s (D.refused number s.at)
  here number l h = refuses number s.at (record { low = l; high = h; near = omega arith })

  -- the test that n is not 0
  sized : T (not (eqb s.n 0)) → s.n ≢ 0
  sized t = eqb-false s.n 0 (T_false _ t)

  does_size : get_or file s.at 0 ≡ 1 → s.at + 7 ≤ length file → Does file s (D.size file s)
  unfolding D.size D.bad_size
  does_size kind fits =
      cond_ind (Does file s) (not (eqb s.n 0)) (D.refused 23 s.at) _ (λ t. here 23 (omega arith) (omega arith)) (λ t.
      let first = eqb-true s.n 0 (not-false _ (T_false _ t)) in
      go (eqb n 0) (ltb 64 n) (ltb 1_000_000_000 w) refl (nltb→le 64 n) (nltb→le 1_000_000_000 w) first)
    where
      n : ℕ
      n = u16_at file (s.at + 1)

      w : ℕ
      w = u32_at file (s.at + 3)

      bad : Does file s (D.refused 25 s.at)
      bad = here 25 (omega arith) (omega arith)

      go : (x y z : Bool) → eqb n 0 ≡ x → (T (not y) → n ≤ 64) → (T (not z) → w ≤ 1_000_000_000) → s.n ≡ 0
          → Does file s (cond (x || y || z) (D.refused 25 s.at) (D.more (D.with_size s n w)))
      go true y z some few low first = bad
      go false true z some few low first = bad
      go false false true some few low first = bad
      go false false false some few low first =
          sizes (record { kind = kind; fits = fits; first = first; some = eqb-false n 0 some; small = few tt; low = low tt })

  does_line : {kind size count : ℕ} {next : D.Scan} → get_or file s.at 0 ≡ kind → s.at + size ≤ length file
      → (IsLine file s kind size count → Does file s (D.more next)) → Does file s (D.line s count next)
  unfolding D.line
  does_line {count = count} kind fits adds =
      cond_ind (Does file s) (eqb s.n 0) (D.refused 23 s.at) _ (λ t. here 23 (omega arith) (omega arith))
      (λ t. cond_ind (Does file s) (eqb count s.n) (D.refused 24 s.at) _ (λ u. here 24 (omega arith) (omega arith))
      (λ u. adds (record { kind_is = kind; fits = fits; some = sized t; fewer = eqb-false count s.n (T_false _ u) })))

  does_end : get_or file s.at 0 ≡ 4 → Does file s (D.end file s)
  unfolding D.end
  does_end kind =
      let b = eqb (length s.fragments) s.n in
      let c = eqb (length s.events) s.n in
      cond_ind (Does file s) (eqb s.n 0) (D.refused 23 s.at) _ (λ t. here 23 (omega arith) (omega arith))
      (λ t. cond_ind (Does file s) (b && c) _ (D.refused 24 s.at)
      (λ u. cond_ind (Does file s) (eqb (s.at + 1) (length file)) (D.accepted s) (D.refused 26 (s.at + 1))
      (λ v. ends (record {
        kind = kind;
        some = sized t;
        rows = eqb→eq (length s.fragments) s.n (and_left b c u);
        columns = eqb→eq (length s.events) s.n (and_right b c u);
        last = eqb→eq (s.at + 1) (length file) v;
      }))
      (λ v. refuses 26 (s.at + 1) (record { low = omega arith; high = omega arith; near = omega arith })))
      (λ u. here 24 (omega arith) (omega arith)))

  does_kind : Whole file s.at → Does file s (D.by_kind file s)
  unfolding D.by_kind
  does_kind w =
      let kind = get_or file s.at 0 in
      cond_ind (Does file s) (eqb kind 1) (D.size file s) _
      (λ t. let e = eqb→eq kind 1 t in does_size e (size_fits file s.at w e))
      (λ u1. cond_ind (Does file s) (eqb kind 2) (D.fragment s) _
      (λ t. let e = eqb→eq kind 2 t in does_line e (fragment_fits file s.at w e) adds_row)
      (λ u2. cond_ind (Does file s) (eqb kind 3) (D.event s) (D.end file s)
      (λ t. let e = eqb→eq kind 3 t in does_line e (event_fits file s.at w e) adds_column)
      (λ u3.
      let between = kind_between file s.at w in
      let a = eqb-false kind 1 (T_false _ u1) in
      let b = eqb-false kind 2 (T_false _ u2) in
      let c = eqb-false kind 3 (T_false _ u3) in
      does_end (omega arith))))

  pub record_does : Does file s (D.judge_record file s)
  unfolding D.judge_record D.record_of
  record_does = go (found file s.at) (λ n e. found_whole file s.at refl e)
    where
      go : (f : Result ℕ Missing) → ((n : ℕ) → f ≡ Ok n → Whole file s.at) → Does file s (D.record_of file s f)
      go (Err Cut) w = here 21 (omega arith) (omega arith)
      go (Err Unknown) w = here 22 (omega arith) (omega arith)
      go (Ok n) w = does_kind (w n refl)
