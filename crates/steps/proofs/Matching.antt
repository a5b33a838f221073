-- Stars as a partial matching: two functions, inverse to each other where they are below n. `star i` is the column of row i's star, `row j` the row of column
-- j's star, and a number not below n says that there is none.
use mathlib.Core.Path.{◌≡◌, refl, ap}
use mathlib.Core.Logic.{◌≢◌, dite}
use Prim.Native.Nat.{ℕ, ◌+◌, ◌≤◌, ◌<◌}
use native.Mathlib.Decide.{ℕ_discrete}
use native.Mathlib.Omega.{arith}
use lib.Dec.{ltb}
use Rattle.lines.specs.Count.{bit, count}
use Rattle.lines.specs.Put.{put}
use Rattle.lines.proofs.Puts.{put_at, put_off, put_map}
use Rattle.lines.proofs.Counts.{count_ext, count_put, bit_lt}
use Rattle.steps.specs.Going.{Apart, Matching, has_star}

-- Row r takes column c, and the row whose star stood there, if any, is set apart in its place.
pub moved : (n : ℕ) (star row : ℕ → ℕ) (r c : ℕ) → r < n → c < n → Apart n star row r → Apart n (put star r c) (put row c r) (row c)
moved n star row r c hr hc w = record {
  there = λ i hi ne s. dite (ℕ_discrete i r)
      (λ e. cc (put_at star r c i e, put_at row c r c refl))
      (λ d. let es : put star r c i ≡ star i = put_off star r c i d in
      let ei : row (star i) ≡ i = w.there i hi d (omega arith) in
      let nc : star i ≢ c = λ q. ne (cc) in
      cc (put_off row c r (star i) nc));
  back = λ j hj h. dite (ℕ_discrete j c)
      (λ e. let er : put row c r j ≡ r = put_at row c r j e in
      (λ q. (w.back c hc (omega arith)).0 (cc), cc (put_at star r c r refl)))
      (λ d. let er : put row c r j ≡ row j = put_off row c r j d in
      let b : (row j ≢ r) × (star (row j) ≡ j) = w.back j hj (omega arith) in
      (λ q. d (cc ((w.back c hc (omega arith)).1, b.1)), cc (put_off star r c (row j) b.0, b.1)));
}

pub none_apart : (n : ℕ) (star row : ℕ → ℕ) (r : ℕ) → n ≤ r → Apart n star row r → Matching n star row
none_apart n star row r h w = record {
  there = λ i hi ne. w.there i hi (omega arith);
  back = λ j hj l. (omega arith, (w.back j hj l).1);
}

-- a row with no star is set apart by nothing more
pub starless : (n : ℕ) (star row : ℕ → ℕ) (r : ℕ) → n ≤ star r → Matching n star row → Apart n star row r
starless n star row r h w = record {
  there = λ i hi ne. w.there i hi (omega arith);
  back = λ j hj l. (λ e. omega (arith, (w.back j hj l).1, ap star e), (w.back j hj l).1);
}

pub count_moved : (n : ℕ) (star : ℕ → ℕ) (r c : ℕ) → r < n → c < n → count (has_star n (put star r c)) n + bit (has_star n star r) ≡ count (has_star n star) n + 1
count_moved n star r c hr hc =
    omega (arith, count_ext _ _ n (λ i h. put_map (λ x. ltb x n) star r c i), count_put (has_star n star) r (ltb c n) n hr, bit_lt c n hc)
