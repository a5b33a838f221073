-- The code's operations on a word of k digits, as operations on the set that it is; and the lowest member.
use mathlib.Core.Path.{◌≡◌, ap, ◌∙◌}
use mathlib.Core.Logic.{◌≢◌, dite}
use mathlib.Core.Bool.{true, false, not}
use Prim.Native.Nat.{ℕ, zero, suc, ◌-◌, ◌*◌, ◌/◌, ◌%◌, ◌^◌, ◌≤◌, ◌<◌}
use native.Mathlib.Nat.{pow-suc, mod-eq_of_lt, one-mul}
use native.Mathlib.Decide.{dec_lt}
use native.Mathlib.Omega.{arith}
use lib.Dec.{T, eqb}
use lib.Bits.{bit_and, bit_or, or_step, and_step, or_zero_r, and_self, and_mask}
use lib.Count.{count_trailing_zeros, under}
use lib.Pow.{pow_pos, pow-lt, ones_lt, high, ones_split}
use Rattle.lines.specs.First.{first}
use Rattle.lines.specs.Sets.{has, with, without, all, rest}
use Rattle.lines.proofs.Tests.{T_true, T_false, by_cases}
use Rattle.lines.proofs.Firsts.{First, first_one, first_is, first_at}
use Rattle.lines.proofs.Sets.{has_suc, has_odd, has_even, none_empty, with_bottom, with_up, without_bottom, without_up, without_lt, cut_low, rest_low}

-- ---- the code's operations on words of k digits

pub has_shr : (s i : ℕ) → eqb (bit_and (s / 2 ^ i) 1) 1 ≡ has s i
unfolding has
has_shr s i = ap (λ (x : ℕ). eqb x 1) (and_mask (s / 2 ^ i) 1)

pub one_shl : (k i : ℕ) → i < k → (1 * 2 ^ i) % 2 ^ k ≡ 2 ^ i
one_shl k i h = mod-eq_of_lt {n = 1 * 2 ^ i} {m = 2 ^ k} (omega (arith, pow-lt h)) ∙ one-mul (2 ^ i)

pub or_with : (s i : ℕ) → bit_or s (2 ^ i) ≡ with s i
or_with s zero = or_step s 1 ∙ omega (arith, or_zero_r (s / 2), with_bottom s)
or_with s (suc i) =
    let h : 2 ^ suc i / 2 ≡ 2 ^ i = omega (arith, pow-suc 2 i) in
    omega (arith, or_step s (2 ^ suc i), ap (λ (x : ℕ). bit_or (s / 2) x) h, pow-suc 2 i, or_with (s / 2) i, with_up s i)

pub and_without : (k s i : ℕ) → s < 2 ^ k → i < k → bit_and s ((2 ^ k - 1) - 2 ^ i) ≡ without s i
and_without zero s i h l = absurd (omega arith)
and_without (suc k) s zero h l =
    let m : ((2 ^ suc k - 1) - 2 ^ 0) / 2 ≡ 2 ^ k - 1 = omega (arith, pow-suc 2 k, pow_pos k) in
    omega (
      arith,
      and_step s ((2 ^ suc k - 1) - 2 ^ 0),
      ap (λ (x : ℕ). bit_and (s / 2) x) m,
      and_mask (s / 2) k,
      mod-eq_of_lt {n = s / 2} {m = 2 ^ k} (omega (arith, pow-suc 2 k)),
      pow-suc 2 k,
      pow_pos k,
      without_bottom s,
    )
and_without (suc k) s (suc i) h l =
    let p : 2 ^ i < 2 ^ k = pow-lt (omega arith) in
    let m : ((2 ^ suc k - 1) - 2 ^ suc i) / 2 ≡ (2 ^ k - 1) - 2 ^ i = omega (arith, pow-suc 2 k, pow-suc 2 i) in
    omega (
      arith,
      and_step s ((2 ^ suc k - 1) - 2 ^ suc i),
      ap (λ (x : ℕ). bit_and (s / 2) x) m,
      and_without k (s / 2) i (omega (arith, pow-suc 2 k)) (omega arith),
      pow-suc 2 k,
      pow-suc 2 i,
      without_up s i,
    )

pub all_shr : (k n : ℕ) → n ≤ k → (2 ^ k - 1) / 2 ^ (k - n) ≡ all n
unfolding all
all_shr k n h =
    ap (λ (x : ℕ). (2 ^ x - 1) / 2 ^ (k - n)) (omega arith)
    ∙ ap (λ (x : ℕ). x / 2 ^ (k - n)) (ones_split n (k - n)) ∙ high (2 ^ n - 1) (k - n) (ones_lt (k - n))

-- all k digits turned, and the lowest n kept
turned : (k n s : ℕ) → s < 2 ^ k → n ≤ k → ((2 ^ k - 1) - s) % 2 ^ n ≡ rest n s
turned k zero s h l = unfold rest all in omega arith
turned zero (suc n) s h l = absurd (omega arith)
turned (suc k) (suc n) s h l =
    let x : ℕ = (2 ^ suc k - 1) - s in
    let half : x / 2 ≡ (2 ^ k - 1) - s / 2 = omega (arith, pow-suc 2 k, pow_pos k) in
    omega (
      arith,
      cut_low n x,
      ap (λ (y : ℕ). y % 2 ^ n) half,
      turned k n (s / 2) (omega (arith, pow-suc 2 k)) (omega arith),
      rest_low n s,
      pow-suc 2 k,
      pow_pos k,
    )

pub not_rest : (k n s : ℕ) → s < 2 ^ k → n ≤ k → bit_and ((2 ^ k - 1) - s) (all n) ≡ rest n s
unfolding all
not_rest k n s h l = and_mask ((2 ^ k - 1) - s) n ∙ turned k n s h l

-- ---- the lowest member

low_odd : (k s : ℕ) → s % 2 ≡ 1 → count_trailing_zeros (suc k) s ≡ zero
unfolding count_trailing_zeros
low_odd k s e = ap (λ (x : ℕ). under x (count_trailing_zeros k (s / 2))) e

low_even : (k s : ℕ) → s % 2 ≡ 0 → count_trailing_zeros (suc k) s ≡ suc (count_trailing_zeros k (s / 2))
unfolding count_trailing_zeros
low_even k s e = ap (λ (x : ℕ). under x (count_trailing_zeros k (s / 2))) e

-- the count of trailing zeros is the lowest member, and k where none is below k
trailing_is : (k s : ℕ) → First (has s) k (count_trailing_zeros k s)
unfolding count_trailing_zeros
trailing_is zero s = record { most = omega arith; hit = λ l. absurd (omega arith); before = λ i l. absurd (omega arith) }
trailing_is (suc k) s = by_cases (has s zero) odd (λ y. even y (trailing_is k (s / 2)))
  where
    odd : has s zero ≡ true → First (has s) (suc k) (count_trailing_zeros (suc k) s)
    odd y = rw (low_odd k s (has_odd s y)) (record { most = omega arith; hit = λ l. rw y tt; before = λ i l. absurd (omega arith) })

    up : has s zero ≡ false → (t : ℕ) → ((i : ℕ) → i < t → T (not (has (s / 2) i))) → (i : ℕ) → i < suc t → T (not (has s i))
    up y t f zero l = rw y tt
    up y t f (suc i) l = rw (has_suc s i) (f i (omega arith))

    even : has s zero ≡ false → First (has (s / 2)) k (count_trailing_zeros k (s / 2)) → First (has s) (suc k) (count_trailing_zeros (suc k) s)
    even y f = rw (low_even k s (has_even s y)) (record {
      most = omega (arith, f.most);
      hit = λ l. rw (has_suc s (count_trailing_zeros k (s / 2))) (f.hit (omega arith));
      before = up y (count_trailing_zeros k (s / 2)) f.before;
    })

pub lowest_is : (k s : ℕ) → count_trailing_zeros k s ≡ first (has s) k
lowest_is k s = first_one (has s) k _ _ (trailing_is k s) (first_is (has s) k)

-- a set that is not empty has a lowest member
pub lowest_lt : (n s : ℕ) → s < 2 ^ n → s ≢ 0 → first (has s) n < n
lowest_lt n s h z =
    dite (dec_lt (first (has s) n) n) (λ l. l) (λ l.
    absurd (z (none_empty n s h (λ i k. T_false (has s i) ((first_is (has s) n).before i (omega arith))))))

-- without it less is left
pub lowest_less : (n s : ℕ) → s < 2 ^ n → s ≢ 0 → without s (first (has s) n) < s
lowest_less n s h z = without_lt s _ (T_true _ ((first_is (has s) n).hit (lowest_lt n s h z)))

-- the same, where the word has k digits and the set is below n of them
pub lowest_in : (k n s : ℕ) → n ≤ k → s < 2 ^ n → s ≢ 0 → count_trailing_zeros k s ≡ first (has s) n
lowest_in k n s l h z =
    let f = first_is (has s) n in
    let low = lowest_lt n s h z in
    lowest_is k s ∙ first_at (has s) k (first (has s) n) (omega arith) (f.hit low) f.before

-- `s & (s - 1)` is the set without its lowest member
pub lowest_cleared : (k s : ℕ) → s < 2 ^ k → s ≢ 0 → bit_and s (s - 1) ≡ without s (count_trailing_zeros k s)
lowest_cleared zero s h z = absurd (z (omega arith))
lowest_cleared (suc k) s h z = by_cases (has s zero) odd (λ y. even y (lowest_cleared k (s / 2) (omega (arith, pow-suc 2 k)) (λ e. z (omega (arith, has_even s y)))))
  where
    odd : has s zero ≡ true → bit_and s (s - 1) ≡ without s (count_trailing_zeros (suc k) s)
    odd y =
        let o = has_odd s y in
        let half : (s - 1) / 2 ≡ s / 2 = omega arith in
        rw (low_odd k s o) (omega (arith, and_step s (s - 1), ap (λ (x : ℕ). bit_and (s / 2) x) half, and_self (s / 2), without_bottom s))

    even : has s zero ≡ false → bit_and (s / 2) (s / 2 - 1) ≡ without (s / 2) (count_trailing_zeros k (s / 2)) → bit_and s (s - 1) ≡ without s (count_trailing_zeros (suc k) s)
    even y r =
        let o = has_even s y in
        let half : (s - 1) / 2 ≡ s / 2 - 1 = omega arith in
        rw (low_even k s o) (omega (arith, and_step s (s - 1), ap (λ (x : ℕ). bit_and (s / 2) x) half, without_up s (count_trailing_zeros k (s / 2))))
