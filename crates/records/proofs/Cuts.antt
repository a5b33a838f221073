-- A file cut short: what is found where nine bytes are left is what is found in the whole file; nine bytes and no fewer.
use mathlib.Core.Path.{◌≡◌, refl, sym, ap, ◌∙◌}
use mathlib.Core.Logic.{dite}
use mathlib.Core.Bool.{cond}
use mathlib.Core.List.{List, [], ◌∷◌, ◌++◌}
use Prim.Native.Nat.{ℕ, zero, suc, ◌+◌, ◌-◌, ◌≤◌, ◌<◌, min}
use native.Mathlib.Decide.{dec_lt}
use native.Mathlib.Omega.{arith}
use lib.Dec.{eqb, ltb, ltb→lt, lt→ltb}
use lib.ListN.{length, get_or, take, drop, replicate, length-append, length-take, length-replicate}
use lib.Seq.{take-take, get_or-take, get_or_at}
use Rattle.lines.proofs.Tests.{T_same, cond_ind}
use Rattle.std.specs.Prelude.{Result, Ok, Err}
use Rattle.records.specs.declared.Missing.{Missing}
use Rattle.records.specs.declared.Missing.TheVariants.{Cut, Unknown}
use Rattle.records.specs.Records.{known, body_length, found, part, body}
use Rattle.records.proofs.RecordLaws.{past_end, short, whole, found_size}

-- a part that lies in front of the cut
part_before : {A : Type 0} (n i k : ℕ) (xs : List A) → i + n ≤ k → take n (drop i (take k xs)) ≡ take n (drop i xs)
part_before n zero k xs h = take-take n k xs (omega arith)
part_before n (suc i) zero xs h = absurd (omega arith)
part_before n (suc i) (suc k) [] h = refl
part_before n (suc i) (suc k) (x ∷ xs) h = part_before n i k xs (omega arith)

body_short : (kind : ℕ) → body_length kind ≤ 8
unfolding body_length
body_short kind =
    cond_ind (λ n. n ≤ 8) (eqb kind 1) 6 (cond (eqb kind 2) 8 (cond (eqb kind 3) 6 0)) (λ t. omega arith)
    (λ t. cond_ind (λ n. n ≤ 8) (eqb kind 2) 8 (cond (eqb kind 3) 6 0) (λ t. omega arith)
    (λ t. cond_ind (λ n. n ≤ 8) (eqb kind 3) 6 0 (λ t. omega arith) (λ t. omega arith)))

-- both lengths lie on the same side
same_side : (k l a b : ℕ) → a + b ≤ k → ltb (min k l - a) b ≡ ltb (l - a) b
same_side k l a b h =
    T_same (ltb (min k l - a) b) (ltb (l - a) b) (λ t. lt→ltb (l - a) b (omega (arith, ltb→lt (min k l - a) b t)))
    (λ t. lt→ltb (min k l - a) b (omega (arith, ltb→lt (l - a) b t)))

same_reach : (k l a : ℕ) → a ≤ k → ltb (min k l) a ≡ ltb l a
same_reach k l a h =
    T_same (ltb (min k l) a) (ltb l a) (λ t. lt→ltb l a (omega (arith, ltb→lt (min k l) a t))) (λ t. lt→ltb (min k l) a (omega (arith, ltb→lt l a t)))

module _ (k : ℕ) (file : List ℕ) where
  -- a record takes at most nine bytes
  pub cut_found : (at : ℕ) → at + 9 ≤ k → found (take k file) at ≡ found file at
  unfolding found
  cut_found at h =
      let kind = get_or file at 0 in
      rw (
        get_or-take k file at 0 (omega arith),
        length-take k file,
        same_reach k (length file) (at + 1) (omega arith),
        same_side k (length file) (at + 1) (body_length kind) (omega (arith, body_short kind)),
      )

  pub cut_body : (at : ℕ) → at + 9 ≤ k → body (take k file) at ≡ body file at
  unfolding body part
  cut_body at h = rw (cut_found at h) (go (found file at) (λ n e. found_size file at e))
    where
      go : (f : Result ℕ Missing) → ((n : ℕ) → f ≡ Ok n → n ≡ body_length (get_or file at 0)) → part (take k file) at f ≡ part file at f
      go (Ok n) size = part_before n (at + 1) k file (omega (arith, size n refl, body_short (get_or file at 0)))
      go (Err Cut) size = refl
      go (Err Unknown) size = refl

-- Nine bytes and no fewer: of a file that ends in a fragment, a cut that takes its last byte loses it.
module _ (k at : ℕ) (h : k < at + 9) where
  abbrev ends_in_fragment : List ℕ
  ends_in_fragment = replicate at 0 ++ (2 ∷ replicate 8 0)

  its_length : length ends_in_fragment ≡ at + 9
  its_length = length-append (replicate at 0) (2 ∷ replicate 8 0) ∙ ap (λ n. n + 9) (length-replicate at 0)

  its_kind : get_or ends_in_fragment at 0 ≡ 2
  its_kind = get_or_at (replicate at 0) 2 (replicate 8 0) 0 at (length-replicate at 0)

  pub found_lost : (found ends_in_fragment at ≡ Ok 8) × (found (take k ends_in_fragment) at ≡ Err Cut)
  unfolding body_length known
  found_lost = (
    sym (whole ends_in_fragment at (omega (arith, its_length)) (rw its_kind) (rw its_kind) (omega (arith, its_length))),
    dite (dec_lt at k)
        (λ l.
        let kind : get_or (take k ends_in_fragment) at 0 ≡ 2 = get_or-take k ends_in_fragment at 0 l ∙ its_kind in
        let long = length-take k ends_in_fragment in
        sym (short (take k ends_in_fragment) at (omega (arith, its_length, long)) (rw kind) {m = 8} (rw kind) (omega (arith, its_length, long))))
        (λ l. sym (past_end (take k ends_in_fragment) at (omega (arith, length-take k ends_in_fragment)))),
  )

-- ---- the first 4,096 bytes

-- up to offset 4,087; from 4,088 on a fragment is lost (`found_lost`)
pub first_found : (file : List ℕ) (at : ℕ) → at ≤ 4087 → found (take 4096 file) at ≡ found file at
first_found file at h = cut_found 4096 file at (omega arith)

pub first_body : (file : List ℕ) (at : ℕ) → at ≤ 4087 → body (take 4096 file) at ≡ body file at
first_body file at h = cut_body 4096 file at (omega arith)
