-- The laws of a set of lines as one number: membership after each operation, equality by members, bounds, and how many members there are.
-- Each is over any number and any line, so that one word and several joined words share them.
use mathlib.Core.Path.{◌≡◌, refl, sym, ap, ap₂, ◌∙◌}
use mathlib.Core.Logic.{◌≢◌, dite}
use mathlib.Core.Bool.{Bool, true, false, not, ◌&&◌, ◌||◌}
use Prim.Native.Nat.{ℕ, zero, suc, ◌+◌, ◌-◌, ◌*◌, ◌/◌, ◌%◌, ◌^◌, ◌≤◌, ◌<◌}
use native.Mathlib.Nat.{pow-suc, div-one, mod-lt}
use native.Mathlib.Decide.{ℕ_discrete}
use native.Mathlib.Omega.{arith}
use borrow.Author.Tests.{eqb-true, eqb-false, eq-eqb, ne_eqb, ltb-true, ltb-false}
use lib.Dec.{eqb, ltb}
use lib.Arith.{lt-one, mod-mul}
use lib.Count.{ones, ones_step, ones-ones}
use lib.Pow.{shr-shr, pow_pos, ones_lt}
use Rattle.lines.specs.Sum.{sum}
use Rattle.lines.specs.Count.{bit, count}
use Rattle.lines.specs.Sets.{has, with, without, all, rest, those}
use Rattle.lines.proofs.Tests.{by_cases, clash}
use Rattle.lines.specs.Put.{put}
use Rattle.lines.proofs.Puts.{put_at, put_off}
use Rattle.lines.proofs.Sums.{sum_front}
use Rattle.lines.proofs.Counts.{count_ext}

-- ---- one digit, and the digits above the lowest

has_zero : (s : ℕ) → has s zero ≡ eqb (s % 2) 1
unfolding has
has_zero s = ap (λ (x : ℕ). eqb (x % 2) 1) (div-one s)

pub has_suc : (s i : ℕ) → has s (suc i) ≡ has (s / 2) i
unfolding has
has_suc s i = ap (λ (x : ℕ). eqb (x % 2) 1) (ap (λ (x : ℕ). s / 2 ^ x) (omega arith) ∙ sym (shr-shr s 1 i))

pub has_odd : (s : ℕ) → has s zero ≡ true → s % 2 ≡ 1
has_odd s h = eqb-true (s % 2) 1 (sym (has_zero s) ∙ h)

pub has_even : (s : ℕ) → has s zero ≡ false → s % 2 ≡ 0
has_even s h = let e = eqb-false (s % 2) 1 (sym (has_zero s) ∙ h) in omega arith

has_bit : (s : ℕ) → bit (has s zero) ≡ s % 2
unfolding bit
has_bit s = by_cases (has s zero) (λ h. rw h (sym (has_odd s h))) (λ h. rw h (sym (has_even s h)))

-- the members of a number, and of what is above its lowest digit
ones_at : (s t b : ℕ) → s ≡ t * 2 + b → b < 2 → ones s ≡ b + ones t
ones_at s t b e l = ones_step s ∙ ap₂ (λ (x y : ℕ). x + ones y) (omega arith) (omega arith)

-- what two numbers with the same lowest digit, or the same digits above it, share
pub has_low : (a b : ℕ) → a % 2 ≡ b % 2 → has a zero ≡ has b zero
has_low a b e = has_zero a ∙ ap (λ (x : ℕ). eqb x 1) e ∙ sym (has_zero b)

pub has_up : (a b j : ℕ) → a / 2 ≡ b → has a (suc j) ≡ has b j
has_up a b j e = has_suc a j ∙ ap (λ (x : ℕ). has x j) e

-- a member's power is within the number
pub has_le : (s i : ℕ) → has s i ≡ true → 2 ^ i ≤ s
has_le s zero h = let o = has_odd s h in omega arith
has_le s (suc i) h = omega (arith, has_le (s / 2) i (sym (has_suc s i) ∙ h), pow-suc 2 i)

-- nothing is a member at or past the number of digits, and nothing of 0
pub has_off : (k s i : ℕ) → s < 2 ^ k → k ≤ i → has s i ≡ false
has_off zero s zero h l = has_zero s ∙ ne_eqb (s % 2) 1 (λ e. omega arith)
has_off zero s (suc i) h l = has_suc s i ∙ has_off zero (s / 2) i (omega arith) (omega arith)
has_off (suc k) s zero h l = absurd (omega arith)
has_off (suc k) s (suc i) h l = has_suc s i ∙ has_off k (s / 2) i (omega (arith, pow-suc 2 k)) (omega arith)

pub has_empty : (i : ℕ) → has 0 i ≡ false
has_empty i = has_off 0 0 i (omega arith) (omega arith)

-- a member is below the number of digits
pub member_lt : (k s i : ℕ) → s < 2 ^ k → has s i ≡ true → i < k
member_lt k s i h y = by_cases (ltb i k) (ltb-true i k) (λ t. clash (has s i) y (has_off k s i h (ltb-false i k t)))

-- ---- equality by members

pub ext : (k a b : ℕ) → a < 2 ^ k → b < 2 ^ k → ((i : ℕ) → i < k → has a i ≡ has b i) → a ≡ b
ext zero a b ha hb e = omega arith
ext (suc k) a b ha hb e =
    let up : a / 2 ≡ b / 2 =
    ext k (a / 2) (b / 2) (omega (arith, pow-suc 2 k)) (omega (arith, pow-suc 2 k))
    (λ i h. sym (has_suc a i) ∙ e (suc i) (omega arith) ∙ has_suc b i) in
    let low : a % 2 ≡ b % 2 = by_cases (has b zero)
    (λ h. omega (arith, has_odd b h, has_odd a (e zero (omega arith) ∙ h)))
    (λ h. omega (arith, has_even b h, has_even a (e zero (omega arith) ∙ h))) in
    omega arith

-- a set with no member is empty
pub none_empty : (k s : ℕ) → s < 2 ^ k → ((i : ℕ) → i < k → has s i ≡ false) → s ≡ 0
none_empty k s h e = ext k s 0 h (pow_pos k) (λ i l. e i l ∙ sym (has_empty i))

-- ---- with and without: the value, then the lowest digit and the rest

pub with_yes : (s i : ℕ) → has s i ≡ true → with s i ≡ s
unfolding with
with_yes s i h = rw h

pub with_no : (s i : ℕ) → has s i ≡ false → with s i ≡ s + 2 ^ i
unfolding with
with_no s i h = rw h

pub without_yes : (s i : ℕ) → has s i ≡ true → without s i ≡ s - 2 ^ i
unfolding without
without_yes s i h = rw h

pub without_no : (s i : ℕ) → has s i ≡ false → without s i ≡ s
unfolding without
without_no s i h = rw h

pub with_bottom : (s : ℕ) → with s zero ≡ s / 2 * 2 + 1
with_bottom s =
    by_cases (has s zero)
    (λ h. omega (arith, has_odd s h, with_yes s zero h))
    (λ h. omega (arith, has_even s h, with_no s zero h))

pub with_up : (s i : ℕ) → with s (suc i) ≡ with (s / 2) i * 2 + s % 2
with_up s i =
    by_cases (has s (suc i))
    (λ h. omega (arith, with_yes s (suc i) h, with_yes (s / 2) i (sym (has_suc s i) ∙ h)))
    (λ h. omega (arith, with_no s (suc i) h, with_no (s / 2) i (sym (has_suc s i) ∙ h), pow-suc 2 i))

pub without_bottom : (s : ℕ) → without s zero ≡ s / 2 * 2 + 0
without_bottom s =
    by_cases (has s zero)
    (λ h. omega (arith, has_odd s h, without_yes s zero h))
    (λ h. omega (arith, has_even s h, without_no s zero h))

pub without_up : (s i : ℕ) → without s (suc i) ≡ without (s / 2) i * 2 + s % 2
without_up s i =
    by_cases (has s (suc i))
    (λ h. let y = sym (has_suc s i) ∙ h in omega (arith, without_yes s (suc i) h, without_yes (s / 2) i y, pow-suc 2 i, has_le (s / 2) i y))
    (λ h. omega (arith, without_no s (suc i) h, without_no (s / 2) i (sym (has_suc s i) ∙ h)))

-- ---- membership after each operation

-- `op s i` is s with digit i made d
record Makes (op : ℕ → ℕ → ℕ) (d : ℕ) : Type 0 where
  small : d < 2
  bottom : (s : ℕ) → op s zero ≡ s / 2 * 2 + d
  up : (s i : ℕ) → op s (suc i) ≡ op (s / 2) i * 2 + s % 2

with_makes : Makes with 1
with_makes = record { small = omega arith; bottom = with_bottom; up = with_up }

without_makes : Makes without 0
without_makes = record { small = omega arith; bottom = without_bottom; up = without_up }

module _ {op : ℕ → ℕ → ℕ} {d : ℕ} (m : Makes op d) where
  op_same : (s i : ℕ) → has (op s i) i ≡ eqb d 1
  op_same s zero = let e : op s zero % 2 ≡ d = omega (arith, m.small, m.bottom s) in rw (has_zero (op s zero), e)
  op_same s (suc i) = has_up (op s (suc i)) (op (s / 2) i) i (omega (arith, m.up s i)) ∙ op_same (s / 2) i

  op_other : (s i j : ℕ) → j ≢ i → has (op s i) j ≡ has s j
  op_other s zero zero n = absurd (n refl)
  op_other s zero (suc j) n = has_up (op s zero) (s / 2) j (omega (arith, m.small, m.bottom s)) ∙ sym (has_suc s j)
  op_other s (suc i) zero n = has_low (op s (suc i)) s (omega (arith, m.up s i))
  op_other s (suc i) (suc j) n =
      has_up (op s (suc i)) (op (s / 2) i) j (omega (arith, m.up s i)) ∙ op_other (s / 2) i j (λ e. n (ap suc e)) ∙ sym (has_suc s j)

  op_put : (s i j : ℕ) → has (op s i) j ≡ put (has s) i (eqb d 1) j
  op_put s i j =
      dite (ℕ_discrete j i)
      (λ e. rw e (op_same s i ∙ sym (put_at (has s) i (eqb d 1) i refl)))
      (λ ne. op_other s i j ne ∙ sym (put_off (has s) i (eqb d 1) j ne))

  op_ones : (s i : ℕ) → ones (op s i) + bit (has s i) ≡ ones s + d
  op_ones s zero = omega (arith, ones_at (op s zero) (s / 2) d (m.bottom s) m.small, ones_step s, has_bit s)
  op_ones s (suc i) = omega (arith, ones_at (op s (suc i)) (op (s / 2) i) (s % 2) (m.up s i) (omega arith), ones_step s, op_ones (s / 2) i, ap bit (has_suc s i))

pub with_same : (s i : ℕ) → has (with s i) i ≡ true
with_same = op_same with_makes

pub with_other : (s i j : ℕ) → j ≢ i → has (with s i) j ≡ has s j
with_other = op_other with_makes

pub without_same : (s i : ℕ) → has (without s i) i ≡ false
without_same = op_same without_makes

pub without_other : (s i j : ℕ) → j ≢ i → has (without s i) j ≡ has s j
without_other = op_other without_makes

-- the same in one law each: one flag changed
pub with_put : (s i j : ℕ) → has (with s i) j ≡ put (has s) i true j
with_put = op_put with_makes

pub without_put : (s i j : ℕ) → has (without s i) j ≡ put (has s) i false j
without_put = op_put without_makes

-- and with the test of the line
pub has_with : (s i j : ℕ) → has (with s i) j ≡ (eqb i j || has s j)
has_with s i j =
    by_cases (eqb i j)
    (λ y. let e = eqb-true i j y in rw (y, ← e) (with_same s i))
    (λ y. rw y (with_other s i j (λ e. eqb-false i j y (sym e))))

pub has_without : (s i j : ℕ) → has (without s i) j ≡ (not (eqb i j) && has s j)
has_without s i j =
    by_cases (eqb i j)
    (λ y. let e = eqb-true i j y in rw (y, ← e) (without_same s i))
    (λ y. rw y (without_other s i j (λ e. eqb-false i j y (sym e))))

-- one line alone
pub has_only : (i j : ℕ) → has (with 0 i) j ≡ eqb i j
has_only i j = has_with 0 i j ∙ by_cases (eqb i j) (λ y. rw y) (λ y. rw (y, has_empty j))

-- ---- bounds

pub with_lt : (k s i : ℕ) → s < 2 ^ k → i < k → with s i < 2 ^ k
with_lt zero s i h l = absurd (omega arith)
with_lt (suc k) s zero h l = omega (arith, with_bottom s, pow-suc 2 k)
with_lt (suc k) s (suc i) h l = omega (arith, with_up s i, pow-suc 2 k, with_lt k (s / 2) i (omega (arith, pow-suc 2 k)) (omega arith))

pub without_le : (s i : ℕ) → without s i ≤ s
without_le s i = by_cases (has s i) (λ h. omega (arith, without_yes s i h)) (λ h. omega (arith, without_no s i h))

-- a set with a member less is less
pub without_lt : (s i : ℕ) → has s i ≡ true → without s i < s
without_lt s i h = omega (arith, without_yes s i h, has_le s i h, pow_pos i)

-- ---- how many members

pub ones_with : (s i : ℕ) → has s i ≡ false → ones (with s i) ≡ suc (ones s)
unfolding bit
ones_with s i h = omega (arith, op_ones with_makes s i, ap bit h)

pub ones_without : (s i : ℕ) → has s i ≡ true → suc (ones (without s i)) ≡ ones s
unfolding bit
ones_without s i h = omega (arith, op_ones without_makes s i, ap bit h)

pub count_ones : (n s : ℕ) → s < 2 ^ n → count (has s) n ≡ ones s
unfolding count sum
count_ones zero s h = sym (ap ones (lt-one h) ∙ ones-ones 0)
count_ones (suc n) s h =
    omega (arith, sum_front (λ i. bit (has s i)) n, count_ext _ _ n (λ i l. has_suc s i), count_ones n (s / 2) (omega (arith, pow-suc 2 n)), ones_step s, has_bit s)

-- ---- the lines below n, and those of them that are missing

pub all_lt : (n : ℕ) → all n < 2 ^ n
unfolding all
all_lt n = ones_lt n

pub has_all : (n i : ℕ) → i < n → has (all n) i ≡ true
unfolding all
has_all zero i h = absurd (omega arith)
has_all (suc n) zero h = has_zero (2 ^ suc n - 1) ∙ eq-eqb ((2 ^ suc n - 1) % 2) 1 (omega (arith, pow-suc 2 n, pow_pos n))
has_all (suc n) (suc i) h = has_up (2 ^ suc n - 1) (2 ^ n - 1) i (omega (arith, pow-suc 2 n, pow_pos n)) ∙ has_all n i (omega arith)

pub ones_all : (n : ℕ) → ones (all n) ≡ n
unfolding all
ones_all n = ones-ones n

-- digit by digit
pub cut_low : (n s : ℕ) → s % 2 ^ suc n ≡ s / 2 % 2 ^ n * 2 + s % 2
cut_low n s = ap (λ (x : ℕ). s % x) (pow-suc 2 n) ∙ mod-mul s (pow_pos n) (omega arith)

pub rest_low : (n s : ℕ) → rest (suc n) s ≡ rest n (s / 2) * 2 + (1 - s % 2)
unfolding rest all
rest_low n s = omega (arith, cut_low n s, pow-suc 2 n, pow_pos n, mod-lt (s / 2) (pow_pos n))

pub rest_lt : (n s : ℕ) → rest n s < 2 ^ n
unfolding rest all
rest_lt n s = omega (arith, pow_pos n)

pub has_rest : (n s i : ℕ) → i < n → has (rest n s) i ≡ not (has s i)
has_rest zero s i l = absurd (omega arith)
has_rest (suc n) s zero l =
    by_cases (has s zero)
    (λ y. rw y (has_zero (rest (suc n) s) ∙ ne_eqb (rest (suc n) s % 2) 1 (λ e. omega (arith, rest_low n s, has_odd s y))))
    (λ y. rw y (has_zero (rest (suc n) s) ∙ eq-eqb (rest (suc n) s % 2) 1 (omega (arith, rest_low n s, has_even s y))))
has_rest (suc n) s (suc i) l =
    has_up (rest (suc n) s) (rest n (s / 2)) i (omega (arith, rest_low n s)) ∙ has_rest n (s / 2) i (omega arith) ∙ sym (ap not (has_suc s i))

pub count_rest : (n s : ℕ) → count (has (rest n s)) n ≡ count (λ i. not (has s i)) n
count_rest n s = count_ext _ _ n (has_rest n s)

-- members below n and those missing make n
pub ones_rest : (n s : ℕ) → ones (rest n s) + ones (s % 2 ^ n) ≡ n
ones_rest zero s = unfold rest all in ap (λ (x : ℕ). ones ((1 - 1) - x) + ones x) (lt-one (mod-lt s (omega arith))) ∙ ap₂ ◌+◌ (ones-ones 0) (ones-ones 0)
ones_rest (suc n) s =
    omega (
      arith,
      ones_at (rest (suc n) s) (rest n (s / 2)) (1 - s % 2) (rest_low n s) (omega arith),
      ones_at (s % 2 ^ suc n) (s / 2 % 2 ^ n) (s % 2) (cut_low n s) (omega arith),
      ones_rest n (s / 2),
    )

-- ---- the lines that pass a test

pub those_lt : (b : ℕ → Bool) (n : ℕ) → those b n < 2 ^ n
unfolding those
those_lt b zero = omega arith
those_lt b (suc n) = let h = those_lt b n in by_cases (b n) (λ y. rw y (omega (arith, pow-suc 2 n))) (λ y. rw y (omega (arith, pow-suc 2 n)))

pub has_those_off : (b : ℕ → Bool) (n i : ℕ) → n ≤ i → has (those b n) i ≡ false
has_those_off b n i h = has_off n (those b n) i (those_lt b n) h

-- one line more
pub those_yes : (b : ℕ → Bool) (n : ℕ) → b n ≡ true → those b (suc n) ≡ with (those b n) n
unfolding those
those_yes b n y = rw y (sym (with_no (those b n) n (has_those_off b n n (omega arith))))

pub those_no : (b : ℕ → Bool) (n : ℕ) → b n ≡ false → those b (suc n) ≡ those b n
unfolding those
those_no b n y = rw y

pub has_those : (b : ℕ → Bool) (n i : ℕ) → i < n → has (those b n) i ≡ b i
has_those b zero i h = absurd (omega arith)
has_those b (suc n) i h =
    dite (ℕ_discrete i n)
    (λ e. rw e (by_cases (b n)
    (λ y. rw (those_yes b n y, y) (with_same (those b n) n))
    (λ y. rw (those_no b n y, y) (has_those_off b n n (omega arith)))))
    (λ ne. by_cases (b n)
    (λ y. rw (those_yes b n y) (with_other (those b n) n i ne ∙ has_those b n i (omega arith)))
    (λ y. rw (those_no b n y) (has_those b n i (omega arith))))
