-- What a search from 0 upwards finds, and that there is one answer.
use mathlib.Core.Path.{◌≡◌, refl}
use mathlib.Core.Logic.{dite}
use mathlib.Core.Bool.{Bool, true, false, not, cond}
use Prim.Native.Nat.{ℕ, zero, suc, ◌≤◌, ◌<◌, min}
use native.Mathlib.Decide.{ℕ_discrete, dec_lt}
use native.Mathlib.Omega.{arith}
use lib.Dec.{T, T_not, not_T, ltb, ltb→lt, lt→ltb, nltb→le}
use borrow.Author.Tests.{lt-ltb, le-ltb, ltb-true, ltb-false}
use Rattle.std.specs.Prelude.{Some, None, List, length, get_or, position}
use Rattle.lines.specs.First.{first_on, first, any, found}
use Rattle.std.proofs.lemmas.List.Sums.{position_or_len_is}
use Rattle.lines.proofs.Tests.{T_same, T_true, T_false}

-- what a scan from 0 upwards finds
pub record First (b : ℕ → Bool) (n v : ℕ) : Type 0 where
  pub most : v ≤ n
  pub hit : v < n → T (b v)
  pub before : (i : ℕ) → i < v → T (not (b i))

-- there is one answer
pub first_one : (b : ℕ → Bool) (n v w : ℕ) → First b n v → First b n w → v ≡ w
first_one b n v w p q =
    let nv : ¬ (v < w) = λ l. T_not (b v) (q.before v l) (p.hit (omega arith)) in
    let nw : ¬ (w < v) = λ l. T_not (b w) (p.before w l) (q.hit (omega arith)) in
    omega arith

pub first_is : (b : ℕ → Bool) (n : ℕ) → First b n (first b n)
unfolding first first_on
first_is b zero = record { most = omega arith; hit = λ l. absurd (omega arith); before = λ i l. absurd (omega arith) }
first_is b (suc n) = go (ltb (first b n) n) (b n) refl refl (first_is b n)
  where
    go : (x y : Bool) → ltb (first b n) n ≡ x → b n ≡ y → First b n (first b n) → First b (suc n) (cond x (first b n) (cond y n (suc n)))
    go true y e q f = let l : first b n < n = ltb→lt _ _ (rw e tt) in record { most = omega arith; hit = λ h. f.hit l; before = f.before }
    go false true e q f =
        let l : n ≤ first b n = nltb→le _ _ (rw e tt) in record { most = omega arith; hit = λ h. rw q tt; before = λ i h. f.before i (omega arith) }
    go false false e q f =
        let l : n ≤ first b n = nltb→le _ _ (rw e tt) in
        record {
          most = omega arith;
          hit = λ h. absurd (omega arith);
          before = λ i h. dite (ℕ_discrete i n) (λ d. rw (d, q) tt) (λ ne. f.before i (omega arith));
        }

-- found, by its properties; and not found
pub first_at : (b : ℕ → Bool) (n v : ℕ) → v < n → T (b v) → ((i : ℕ) → i < v → T (not (b i))) → first b n ≡ v
first_at b n v h t l = first_one b n _ v (first_is b n) (record { most = omega arith; hit = λ x. t; before = l })

pub first_none : (b : ℕ → Bool) (n : ℕ) → ((i : ℕ) → i < n → T (not (b i))) → first b n ≡ n
first_none b n l = first_one b n _ n (first_is b n) (record { most = omega arith; hit = λ x. absurd (omega arith); before = l })

-- where v alone can pass, a scan finds v, or nothing if v is not below n
pub first_only : (b : ℕ → Bool) (n v : ℕ) → (v < n → T (b v)) → ((i : ℕ) → i < n → T (b i) → i ≡ v) → first b n ≡ min v n
first_only b n v t only = first_one b n _ _ (first_is b n) (record {
  most = omega arith;
  hit = λ x. let e : min v n ≡ v = omega arith in rw e (t (omega arith));
  before = λ i l. not_T (b i) (λ u. omega (arith, only i (omega arith) u));
})

-- tests that agree below n
pub first_ext : (a b : ℕ → Bool) (n : ℕ) → ((i : ℕ) → i < n → a i ≡ b i) → first a n ≡ first b n
first_ext a b n e =
    let f = first_is b n in
    first_one a n _ _ (first_is a n) (record { most = f.most; hit = λ l. rw (e _ l) (f.hit l); before = λ i l. rw (e i (omega (arith, f.most))) (f.before i l) })

-- whether there is one
pub any_yes : (b : ℕ → Bool) (n i : ℕ) → i < n → T (b i) → T (any b n)
unfolding any
any_yes b n i h t = lt→ltb _ n (some (first_is b n))
  where
    some : First b n (first b n) → first b n < n
    some f = dite (dec_lt (first b n) n) (λ l. l) (λ l. absurd (T_not (b i) (f.before i (omega arith)) t))

pub any_is : (b : ℕ → Bool) (n : ℕ) → T (any b n) → (i : ℕ) × (i < n) × T (b i)
unfolding any
any_is b n t = let h : first b n < n = ltb→lt _ n t in (first b n, h, (first_is b n).hit h)

pub any_no : (b : ℕ → Bool) (n : ℕ) → T (not (any b n)) → (i : ℕ) → i < n → T (not (b i))
any_no b n t i h = not_T (b i) (λ u. T_not (any b n) t (any_yes b n i h u))

-- what a search finds, that is a number or n, is below n where the number is
pub ltb_min : (m n : ℕ) → ltb (min m n) n ≡ ltb m n
ltb_min m n = T_same (ltb (min m n) n) (ltb m n) (λ t. lt→ltb m n (omega (arith, ltb→lt (min m n) n t))) (λ t. lt→ltb (min m n) n (omega (arith, ltb→lt m n t)))

-- ---- an answer as an option

pub found_some : (n v : ℕ) → v < n → found n v ≡ Some v
unfolding found
found_some n v h = rw (lt-ltb v n h)

pub found_none : (n v : ℕ) → n ≤ v → found n v ≡ None
unfolding found
found_none n v h = rw (le-ltb v n h)

-- and what the option says of the answer
pub some_found : (n v w : ℕ) → found n v ≡ Some w → (v ≡ w) × (w < n)
unfolding found
some_found n v w e = go (ltb v n) refl e
  where
    go : (b : Bool) → ltb v n ≡ b → cond b (Some v) None ≡ Some w → (v ≡ w) × (w < n)
    go true t k = let q : v ≡ w = cc in (q, omega (arith, ltb-true v n t))
    go false t k = cc

pub none_found : (n v : ℕ) → found n v ≡ None → n ≤ v
unfolding found
none_found n v e = go (ltb v n) refl e
  where
    go : (b : Bool) → ltb v n ≡ b → cond b (Some v) None ≡ None → n ≤ v
    go true t k = cc
    go false t k = ltb-false v n t

-- the code's search along a list, which is the line's cells
pub position_found : {A : Type 0} (p : A → Bool) (xs : List A) (d : A) (n : ℕ) → length xs ≡ n → position p xs ≡ found n (first (λ j. p (get_or xs j d)) n)
unfolding found
position_found p xs d n e =
    let f = first_is (λ j. p (get_or xs j d)) n in
    let at = position_or_len_is p xs _ d (omega (arith, f.most)) (λ k h. T_false _ (f.before k h)) (λ h. T_true _ (f.hit (omega arith))) in
    rw (at, e)
