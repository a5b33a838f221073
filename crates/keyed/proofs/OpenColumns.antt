-- Column after column opens: what the keys tell after k columns.
use mathlib.Core.Path.{◌≡◌, refl, sym, ◌∙◌}
use mathlib.Core.Logic.{◌≢◌, dite}
use mathlib.Core.Bool.{true, false, not, ◌||◌, or-true, or-false}
use mathlib.Core.List.{List}
use Prim.Native.Nat.{ℕ, ◌+◌, ◌≤◌, ◌<◌}
use native.Mathlib.Decide.{ℕ_discrete, dec_lt}
use native.Mathlib.Omega.{arith}
use borrow.Author.Tests.{lt-ltb, le-ltb}
use lib.Dec.{T, ltb}
use lib.IntN.{ℤ, pos}
use lib.Signed.{◌≤ℤ◌}
use lib.ListN.{get_or}
use Rattle.lines.specs.Sets.{has, without, all, those}
use Rattle.lines.proofs.Sets.{has_all, has_those, without_same, without_other}
use Rattle.lines.proofs.Signed.{signed}
use Rattle.lines.proofs.Tests.{clash, T_false}
use Rattle.std.specs.Int.{int_min}
use Rattle.keyed.specs.Keys.{far, limit, lowered_key, least_key}
use Rattle.keyed.specs.Best.{Keys}
use Rattle.keyed.specs.Opening.{Opens, own_term}
use Rattle.keyed.proofs.Opens.{best_of, keys_none, keys_ext, best_ext, keys_opened}

pub beyond : limit ≤ℤ far
beyond = omega signed

module _ (n rows columns : ℕ) (keys row_prices column_prices : List ℤ) where
  -- the columns that are shut after k of them were looked at
  pub shut_at : ℕ → ℕ
  shut_at k = those (λ j. has columns j || not (ltb j k)) n

  -- a column behind k, and one before it
  shut_behind : (k j : ℕ) → j < n → k ≤ j → has (shut_at k) j ≡ true
  unfolding shut_at
  shut_behind k j h l = has_those _ n j h ∙ rw (le-ltb j k l, or-true)

  shut_before : (k j : ℕ) → j < n → j < k → has (shut_at k) j ≡ has columns j
  unfolding shut_at
  shut_before k j h l = has_those _ n j h ∙ rw (lt-ltb j k l, or-false)

  pub record Opening (key : List ℤ) (best : ℤ) (k : ℕ) : Type 0 where
    pub opens : Opens n rows (shut_at k) keys row_prices column_prices key best

  pub opening_none : (key : List ℤ) → ((i : ℕ) → i < n → get_or key i (pos 0) ≡ far) → Opening key far 0
  opening_none key e = record {
    opens = λ ok working told shut. (
      keys_ext 64 n ok limit beyond working (pos 0) same (keys_none 64 n ok limit beyond working (pos 0) e),
      record {
        low = λ i j hi hj o. clash (has (shut_at 0) j) (shut_behind 0 j hj (omega arith)) (T_false _ o.column);
        hit = λ near. absurd (omega (signed, near, beyond));
      },
    );
  }
    where
      same : (j : ℕ) → j < n → has (shut_at 0) j ≡ has (all n) j
      same j h = shut_behind 0 j h (omega arith) ∙ sym (has_all n j h)

  -- at columns other than k nothing changes
  apart : (k j : ℕ) → j < n → j ≢ k → has (shut_at (k + 1)) j ≡ has (shut_at k) j
  apart k j hj ne =
      dite (dec_lt j k)
      (λ l. shut_before (k + 1) j hj (omega arith) ∙ sym (shut_before k j hj l))
      (λ l. shut_behind (k + 1) j hj (omega arith) ∙ sym (shut_behind k j hj (omega arith)))

  -- a column of the set stays shut
  pub opening_skip : {key : List ℤ} {best : ℤ} (k : ℕ) → k < n → has columns k ≡ true → Opening key best k → Opening key best (k + 1)
  opening_skip k h e o = record {
    opens = λ ok working told shut.
        let x = o.opens ok working told shut in
        (keys_ext 64 n ok limit beyond working (pos 0) same x.0, best_ext 64 n ok limit beyond working (pos 0) same x.1);
  }
    where
      same : (j : ℕ) → j < n → has (shut_at (k + 1)) j ≡ has (shut_at k) j
      same j hj = dite (ℕ_discrete j k) (λ q. rw q (shut_before (k + 1) k h (omega arith) ∙ e ∙ sym (shut_behind k k h (omega arith)))) (λ ne. apart k j hj ne)

  -- any other opens
  abbrev term : ℕ → ℕ → ℤ
  term = own_term n keys row_prices column_prices

  pub opening_more : {key : List ℤ} {best : ℤ} (key' : List ℤ) (best' : ℤ) (k : ℕ) → k < n → has columns k ≡ false
      → ((i : ℕ) → i < n → get_or key' i (pos 0) ≡ lowered_key rows (term k) i (get_or key i (pos 0)))
      → best' ≡ least_key rows (λ i. int_min (get_or key i (pos 0)) (term k i)) n → Opening key best k → Opening key' best' (k + 1)
  unfolding lowered_key
  opening_more {key} key' best' k h e new least o = record {
    opens = λ ok working told shut.
        let x = o.opens ok working told shut in
        let opened : (new_key : ℕ → ℤ) → ((i : ℕ) → i < n → T (not (has rows i)) → new_key i ≡ int_min (get_or key i (pos 0)) (term k i))
        → Keys 64 n ok limit working rows (without (shut_at k) k) (pos 0) new_key = λ new_key e.
        keys_opened 64 n ok limit beyond working (pos 0) {key = λ i. get_or key i (pos 0)} {term = term k} k h (λ i hi u. told i k hi h) (λ i hi u. shut i k hi h) e x.0 in
        let k1 = opened (λ i. get_or key' i (pos 0)) (λ i hi u. new i hi ∙ rw (T_false (has rows i) u)) in
        let k2 = opened (λ i. int_min (get_or key i (pos 0)) (term k i)) (λ i hi u. refl) in
        (keys_ext 64 n ok limit beyond working (pos 0) same k1, rw least (best_ext 64 n ok limit beyond working (pos 0) same (best_of 64 n ok limit beyond working (pos 0) k2)));
  }
    where
      same : (j : ℕ) → j < n → has (shut_at (k + 1)) j ≡ has (without (shut_at k) k) j
      same j hj =
          dite (ℕ_discrete j k)
          (λ q. rw q (shut_before (k + 1) k h (omega arith) ∙ e ∙ sym (without_same (shut_at k) k)))
          (λ ne. apart k j hj ne ∙ sym (without_other (shut_at k) k j ne))

  pub opening_all : {key : List ℤ} {best : ℤ} → Opening key best n → Opens n rows columns keys row_prices column_prices key best
  opening_all o ok working told shut =
      let x = o.opens ok working told shut in
      let same : (j : ℕ) → j < n → has columns j ≡ has (shut_at n) j = λ j hj. sym (shut_before n j hj hj) in
      (keys_ext 64 n ok limit beyond working (pos 0) same x.0, best_ext 64 n ok limit beyond working (pos 0) same x.1)
