-- What a loop over the indices 0, 1, .. keeps from turn to turn, at the code's `i + 1`, and what it has at the end.
use mathlib.Core.Path.{◌≡◌, refl, sym, ap, ◌∙◌}
use mathlib.Core.Logic.{dite}
use mathlib.Core.Bool.{Bool, true, false, ◌||◌}
use mathlib.Core.List.{List}
use Prim.Native.Nat.{ℕ, ◌+◌, ◌≤◌, ◌<◌}
use native.Mathlib.Numerals.{add-one}
use native.Mathlib.Decide.{ℕ_discrete}
use native.Mathlib.Omega.{arith}
use borrow.Author.Count.{below_none, below_more}
use borrow.Author.Tests.{lt-ltb, le-ltb}
use lib.IntN.{ℤ, ◌+ℤ◌}
use lib.ListN.{length, get_or, set, length-set}
use lib.Seq.{get_or-set_same, get_or-set_other, ext_get_or}
use lib.Signed.{lt_z}
use Rattle.lines.specs.Sum.{sum, sumℤ}
use Rattle.lines.specs.Count.{bit, count}
use Rattle.std.specs.Prelude.{Some, None}
use Rattle.lines.specs.First.{first, any, found, least_on, least}
use Rattle.lines.specs.Square.{table, each}
use Rattle.lines.specs.Sets.{with, those}
use Rattle.lines.proofs.Tests.{T_true, T_same, by_cases}
use Rattle.lines.proofs.Firsts.{first_at, first_none, any_yes, any_is, found_some, found_none}
use Rattle.lines.proofs.Squares.{length_table, table_at, length_each, each_at}
use Rattle.lines.proofs.Sets.{those_yes, those_no}

-- ---- a search

-- after i turns: no index below i passes
pub record Missed (b : ℕ → Bool) (i : ℕ) : Type 0 where
  pub missed : (k : ℕ) → k < i → b k ≡ false

pub missed_none : {b : ℕ → Bool} → Missed b 0
missed_none = record { missed = below_none _ }

pub missed_more : {b : ℕ → Bool} {i : ℕ} → b i ≡ false → Missed b i → Missed b (i + 1)
missed_more {b} {i} e m = record { missed = below_more _ i m.missed e }

-- the index passes, or the indices are at their end
pub missed_hit : {b : ℕ → Bool} {i : ℕ} (n : ℕ) → i < n → b i ≡ true → Missed b i → i ≡ first b n
missed_hit {b} {i} n h e m = sym (first_at b n i h (rw e tt) (λ k l. rw (m.missed k l) tt))

pub missed_all : {b : ℕ → Bool} {i : ℕ} (n : ℕ) → n ≤ i → Missed b i → n ≡ first b n
missed_all {b} n h m = sym (first_none b n (λ k l. rw (m.missed k (omega arith)) tt))

-- the same, where the code gives the index itself
pub missed_end : {b : ℕ → Bool} {i : ℕ} (n : ℕ) → i ≤ n → n ≤ i → Missed b i → i ≡ first b n
missed_end {i = i} n l h m = let e : i ≡ n = omega arith in e ∙ missed_all n h m

-- the same, where the code gives an option
pub found_hit : {b : ℕ → Bool} {i : ℕ} (n : ℕ) → i < n → b i ≡ true → Missed b i → Some i ≡ found n (first b n)
found_hit {b} {i} n h e m = sym (rw (← missed_hit n h e m) (found_some n i h))

pub found_miss : {b : ℕ → Bool} {i : ℕ} (n : ℕ) → n ≤ i → Missed b i → None ≡ found n (first b n)
found_miss {b} n h m = sym (rw (← missed_all n h m) (found_none n n (omega arith)))

-- whether there is one
pub hit_any : (b : ℕ → Bool) (n i : ℕ) → i < n → b i ≡ true → any b n ≡ true
hit_any b n i h e = T_true (any b n) (any_yes b n i h (rw e tt))

pub missed_any : {b : ℕ → Bool} {i : ℕ} (n : ℕ) → n ≤ i → Missed b i → any b n ≡ false
unfolding any
missed_any n h m = rw (← missed_all n h m) (le-ltb n n (omega arith))

-- ---- a list rewritten from the front, one element a turn

-- after i turns: the elements below i are done, those from i on are as they were
pub record Passed {A : Type 0} (d : A) (f : ℕ → A → A) (xs₀ xs : List A) (i : ℕ) : Type 0 where
  pub long : length xs ≡ length xs₀
  pub done : (k : ℕ) → k < i → get_or xs k d ≡ f k (get_or xs₀ k d)
  pub left : (k : ℕ) → i ≤ k → get_or xs k d ≡ get_or xs₀ k d

module _ {A : Type 0} (d : A) (f : ℕ → A → A) (xs₀ : List A) where
  pub passed_none : Passed d f xs₀ xs₀ 0
  passed_none = record { long = refl; done = below_none _; left = λ k h. refl }

  -- the turn stores, or the element is right as it stands
  pub passed_store : (xs : List A) (i : ℕ) (v : A) → i < length xs → v ≡ f i (get_or xs₀ i d) → Passed d f xs₀ xs i → Passed d f xs₀ (set xs i v) (i + 1)
  passed_store xs i v h e p = record {
    long = length-set xs i v ∙ p.long;
    done = below_more _ i (λ k l. get_or-set_other xs i k v d (λ q. omega arith) ∙ p.done k l) (get_or-set_same xs i v d h ∙ e);
    left = λ k l. get_or-set_other xs i k v d (λ q. omega arith) ∙ p.left k (omega arith);
  }

  pub passed_keep : (xs : List A) (i : ℕ) → get_or xs i d ≡ f i (get_or xs₀ i d) → Passed d f xs₀ xs i → Passed d f xs₀ xs (i + 1)
  passed_keep xs i e p = record { long = p.long; done = below_more _ i p.done e; left = λ k l. p.left k (omega arith) }

  pub passed_all : (xs : List A) (i : ℕ) → length xs ≤ i → Passed d f xs₀ xs i → xs ≡ each f xs₀
  passed_all xs i h p =
      ext_get_or d xs (each f xs₀) (p.long ∙ sym (length_each f xs₀)) (λ k l. let q = p.long in p.done k (omega arith) ∙ sym (each_at d f xs₀ k (omega arith)))

-- the same where what stood there does not matter: the list is filled
pub filled_all : {A : Type 0} (d : A) (f : ℕ → A) (xs₀ xs : List A) (n i : ℕ) → length xs ≡ n → n ≤ i → Passed d (λ k x. f k) xs₀ xs i → xs ≡ table f n
filled_all d f xs₀ xs n i e h p =
    ext_get_or d xs (table f n) (e ∙ sym (length_table f n)) (λ k l. p.done k (omega arith) ∙ sym (table_at d f n k (omega arith)))

-- ---- the first with the least value

module _ (b : ℕ → Bool) (f : ℕ → ℤ) (i : ℕ) where
  least_more : least b f (i + 1) ≡ least_on (b i) f i (least b f i)
  unfolding least
  least_more = ap (least b f) (add-one i)

  -- none so far, and i does not pass, or passes
  pub least_none : i ≤ least b f i → b i ≡ false → least b f (i + 1) ≡ i + 1
  unfolding least_on
  least_none h e = least_more ∙ rw (le-ltb (least b f i) i h, e) (sym (add-one i))

  pub least_begin : i ≤ least b f i → b i ≡ true → least b f (i + 1) ≡ i
  unfolding least_on
  least_begin h e = least_more ∙ rw (le-ltb (least b f i) i h, e)

  -- one so far: i does not pass, or is less, or is not
  pub least_skip : least b f i < i → b i ≡ false → least b f (i + 1) ≡ least b f i
  unfolding least_on
  least_skip h e = least_more ∙ rw (lt-ltb (least b f i) i h, e)

  pub least_take : least b f i < i → b i ≡ true → lt_z (f i) (f (least b f i)) ≡ true → least b f (i + 1) ≡ i
  unfolding least_on
  least_take h e l = least_more ∙ rw (lt-ltb (least b f i) i h, e, l)

  pub least_keep : least b f i < i → lt_z (f i) (f (least b f i)) ≡ false → least b f (i + 1) ≡ least b f i
  unfolding least_on
  least_keep h l = by_cases (b i) (λ e. least_more ∙ rw (lt-ltb (least b f i) i h, e, l)) (least_skip h)

-- ---- tests, sums, counts and sets

pub any_more : (b : ℕ → Bool) (i : ℕ) → any b (i + 1) ≡ (b i || any b i)
any_more b i =
    by_cases (b i)
    (λ y. rw y (T_true (any b (i + 1)) (any_yes b (i + 1) i (omega arith) (rw y tt))))
    (λ y. rw y (T_same (any b (i + 1)) (any b i)
    (λ t. let a = any_is b (i + 1) t in
    any_yes b i a.0 (dite (ℕ_discrete a.0 i) (λ e. absurd (rw (e, y) at a.2)) (λ ne. omega arith)) a.2)
    (λ t. let a = any_is b i t in any_yes b (i + 1) a.0 (omega arith) a.2)))

pub sum_more : (f : ℕ → ℕ) (i : ℕ) → sum f (i + 1) ≡ sum f i + f i
unfolding sum
sum_more f i = ap (sum f) (add-one i)

pub sumℤ_more : (f : ℕ → ℤ) (i : ℕ) → sumℤ f (i + 1) ≡ sumℤ f i +ℤ f i
unfolding sumℤ
sumℤ_more f i = ap (sumℤ f) (add-one i)

module _ (b : ℕ → Bool) (i : ℕ) where
  pub count_yes : b i ≡ true → count b (i + 1) ≡ count b i + 1
  unfolding count bit
  count_yes e = sum_more (λ k. bit (b k)) i ∙ rw e

  pub count_no : b i ≡ false → count b (i + 1) ≡ count b i
  unfolding count bit
  count_no e = sum_more (λ k. bit (b k)) i ∙ rw e (omega arith)

  pub those_with : b i ≡ true → those b (i + 1) ≡ with (those b i) i
  those_with e = ap (those b) (add-one i) ∙ those_yes b i e

  pub those_skip : b i ≡ false → those b (i + 1) ≡ those b i
  those_skip e = ap (those b) (add-one i) ∙ those_no b i e
