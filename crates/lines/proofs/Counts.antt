-- Counts of a test below n: a count is a sum of bits, so each fact is one about sums.
use mathlib.Core.Path.{◌≡◌, refl, sym, ap, ◌∙◌}
use mathlib.Core.Bool.{Bool, true, false, not, ◌&&◌}
use Prim.Native.Nat.{ℕ, zero, suc, ◌+◌, ◌*◌, ◌≤◌, ◌<◌}
use native.Mathlib.Omega.{arith}
use lib.Dec.{T, ltb, ltb→lt, lt→ltb}
use Rattle.lines.specs.Sum.{sum}
use Rattle.lines.specs.Count.{bit, count}
use Rattle.lines.specs.Put.{put}
use Rattle.lines.proofs.Puts.{put_map, put_off}
use Rattle.lines.proofs.Sums.{sum_ext, sum_mono, sum_add, le_sum, sum_const, sum_put}

-- ---- sums under a guard

pub bit_le : (b : Bool) → bit b ≤ 1
unfolding bit
bit_le true = omega arith
bit_le false = omega arith

-- under a guard, only what holds where the test passes matters
pub guarded : (b : Bool) (x y : ℕ) → (T b → x ≡ y) → bit b * x ≡ bit b * y
guarded true x y h = ap (λ z. bit true * z) (h tt)
guarded false x y h = unfold bit in omega arith

-- The sum over an injection. Of the i below m that `on` picks, p sends each to a place of its own below n: the values f takes there add up to no
-- more than all its values below n. With f constant 1 it is the pigeonhole, and with f a predicate's bit it counts an injective image.
pub sum_inj : (on : ℕ → Bool) (p f : ℕ → ℕ) (m n : ℕ) → ((i : ℕ) → i < m → T (on i) → p i < n)
    → ((i j : ℕ) → i < m → j < m → T (on i) → T (on j) → p i ≡ p j → i ≡ j) → sum (λ i. bit (on i) * f (p i)) m ≤ sum f n
unfolding sum bit
sum_inj on p f zero n below inj = omega arith
sum_inj on p f (suc m) n below inj = go (on m) refl (λ g. sum_inj on p g m n (λ i h. below i (omega arith)) (λ i j h k. inj i j (omega arith) (omega arith)))
  where
    go : (b : Bool) → on m ≡ b → ((g : ℕ → ℕ) → sum (λ i. bit (on i) * g (p i)) m ≤ sum g n)
        → sum (λ i. bit (on i) * f (p i)) m + bit (on m) * f (p m) ≤ sum f n
    go true e rec =
        let t : T (on m) = rw e tt in
        let apart : sum (λ i. bit (on i) * f (p i)) m ≡ sum (λ i. bit (on i) * put f (p m) 0 (p i)) m =
        sum_ext _ _ m (λ i h. guarded (on i) (f (p i)) (put f (p m) 0 (p i))
        (λ u. sym (put_off f (p m) 0 (p i) (λ q. omega (arith, inj i m (omega arith) (omega arith) u t q))))) in
        rw e (omega (arith, apart, rec (put f (p m) 0), sum_put f (p m) 0 n (below m (omega arith) t)))
    go false e rec = rw e (omega (arith, rec f))

-- ---- of one or two bits

pub bit_not : (x : Bool) → bit x + bit (not x) ≡ 1
unfolding bit
bit_not true = refl
bit_not false = refl

pub bit_mono : (x y : Bool) → (T x → T y) → bit x ≤ bit y
unfolding bit
bit_mono true true h = omega arith
bit_mono true false h = absurd (h tt)
bit_mono false y h = omega arith

pub bit_and : (x y : Bool) → (T x → T y) → bit x ≡ bit x * bit y
unfolding bit
bit_and true true h = refl
bit_and true false h = absurd (h tt)
bit_and false y h = omega arith

pub bit_minus : (x y : Bool) → (T x → T y) → bit x + bit (y && not x) ≡ bit y
unfolding bit
bit_minus true true h = refl
bit_minus true false h = absurd (h tt)
bit_minus false true h = refl
bit_minus false false h = refl

pub bit_not_both : (x y : Bool) → (T x → T y → ⊥) → bit x + bit y ≤ 1
unfolding bit
bit_not_both true true h = absurd (h tt tt)
bit_not_both true false h = omega arith
bit_not_both false true h = omega arith
bit_not_both false false h = omega arith

-- a test against a bound
pub bit_yes : (x : Bool) → T x → bit x ≡ 1
unfolding bit
bit_yes true t = refl
bit_yes false t = absurd t

pub bit_no : (x : Bool) → (T x → ⊥) → bit x ≡ 0
unfolding bit
bit_no true f = absurd (f tt)
bit_no false f = refl

pub bit_lt : (m n : ℕ) → m < n → bit (ltb m n) ≡ 1
bit_lt m n h = bit_yes (ltb m n) (lt→ltb m n h)

pub bit_ge : (m n : ℕ) → n ≤ m → bit (ltb m n) ≡ 0
bit_ge m n h = bit_no (ltb m n) (λ t. omega (arith, ltb→lt m n t))

-- ---- of counts

pub count_ext : (a b : ℕ → Bool) (n : ℕ) → ((i : ℕ) → i < n → a i ≡ b i) → count a n ≡ count b n
unfolding count
count_ext a b n h = sum_ext _ _ n (λ i l. ap bit (h i l))

pub count_none : (n : ℕ) → count (λ i. false) n ≡ 0
unfolding count bit
count_none n = omega (arith, sum_const 0 n)

pub count_not : (b : ℕ → Bool) (n : ℕ) → count b n + count (λ i. not (b i)) n ≡ n
unfolding count
count_not b n = omega (arith, sum_add (λ i. bit (b i)) (λ i. bit (not (b i))) n, sum_ext _ (λ i. 1) n (λ i h. bit_not (b i)), sum_const 1 n)

pub count_le : (b : ℕ → Bool) (n : ℕ) → count b n ≤ n
count_le b n = omega (arith, count_not b n)

-- lines covered and lines left: fewer than n covered leave more than n uncovered
pub uncovered : (r c : ℕ → Bool) (n : ℕ) → count r n + count c n < n → n < count (λ i. not (r i)) n + count (λ j. not (c j)) n
uncovered r c n h = omega (arith, count_not r n, count_not c n)

pub count_mono : (a b : ℕ → Bool) (n : ℕ) → ((i : ℕ) → i < n → T (a i) → T (b i)) → count a n ≤ count b n
unfolding count
count_mono a b n h = sum_mono _ _ n (λ i l. bit_mono (a i) (b i) (h i l))

-- one flag set or cleared
pub count_put : (b : ℕ → Bool) (v : ℕ) (x : Bool) (n : ℕ) → v < n → count (put b v x) n + bit (b v) ≡ count b n + bit x
unfolding count
count_put b v x n h = omega (arith, sum_ext _ _ n (λ i l. put_map bit b v x i), sum_put (λ i. bit (b i)) v (bit x) n h)

-- the places that p sends the chosen rows to, each its own, are at most those that pass the test
pub count_inj : (a b : ℕ → Bool) (p : ℕ → ℕ) (m n : ℕ) → ((i : ℕ) → i < m → T (a i) → (p i < n) × T (b (p i)))
    → ((i j : ℕ) → i < m → j < m → T (a i) → T (a j) → p i ≡ p j → i ≡ j) → count a m ≤ count b n
unfolding count
count_inj a b p m n into apart =
    omega (
      arith,
      sum_ext (λ i. bit (a i)) (λ i. bit (a i) * bit (b (p i))) m (λ i h. bit_and (a i) (b (p i)) (λ t. (into i h t).1)),
      sum_inj a p (λ j. bit (b j)) m n (λ i h t. (into i h t).0) apart,
    )

-- a part of what passes b, and the rest of it
pub count_minus : (a b : ℕ → Bool) (n : ℕ) → ((i : ℕ) → i < n → T (a i) → T (b i)) → count a n + count (λ i. b i && not (a i)) n ≡ count b n
unfolding count
count_minus a b n h = sym (sum_add (λ i. bit (a i)) (λ i. bit (b i && not (a i))) n) ∙ sum_ext _ _ n (λ i l. bit_minus (a i) (b i) (h i l))

-- one that passes, and one that does not
pub count_pos : (b : ℕ → Bool) (n i : ℕ) → i < n → T (b i) → 0 < count b n
unfolding count
count_pos b n i h t = omega (arith, le_sum (λ k. bit (b k)) n i h, bit_yes (b i) t)

pub count_miss : (b : ℕ → Bool) (n : ℕ) → count b n < n → (i : ℕ) × (i < n) × T (not (b i))
unfolding count sum
count_miss b zero h = absurd (omega arith)
count_miss b (suc n) h = go (b n) refl (count_miss b n)
  where
    go : (x : Bool) → b n ≡ x → (count b n < n → (i : ℕ) × (i < n) × T (not (b i))) → (i : ℕ) × (i < suc n) × T (not (b i))
    go true e rec = let m = rec (omega (arith, bit_yes (b n) (rw e tt))) in (m.0, omega arith, m.2)
    go false e rec = (n, omega arith, rw e tt)

pub count_all : (b : ℕ → Bool) (n : ℕ) → count b n ≡ n → (i : ℕ) → i < n → T (b i)
count_all b n e i h = go (b i) refl
  where
    go : (x : Bool) → b i ≡ x → T x
    go true q = tt
    go false q = omega (arith, count_not b n, count_pos (λ k. not (b k)) n i h (rw q tt))
