-- Several words of b digits each, joined to one number: line i is line i % b of word i / b.
use mathlib.Core.Path.{◌≡◌, refl, sym, ap, ap₂, ◌∙◌}
use mathlib.Core.Logic.{◌≢◌, dite}
use mathlib.Core.Bool.{not}
use mathlib.Core.List.{List, [], ◌∷◌}
use Prim.Native.Nat.{ℕ, zero, suc, ◌+◌, ◌-◌, ◌*◌, ◌/◌, ◌%◌, ◌^◌, ◌≤◌, ◌<◌, min}
use native.Mathlib.Nat.{mod-eq_of_lt, mod-lt, add-mul, mul_comm, suc-mul, zero-mul, mul-le-mul_right, div-lt_iff_lt-mul, div-add-mod'}
use native.Mathlib.Decide.{dec_lt}
use native.Mathlib.Omega.{arith}
use lib.Dec.{T, eqb}
use lib.Arith.{digits_lt}
use lib.Bits.{block_half, block_odd}
use lib.Count.{ones, ones-ones, ones_cat, count_trailing_zeros}
use lib.ListN.{length, get_or, set}
use lib.Pow.{shr-shr, pow_pos, pow_mono, pow-add, high, low, ones_split, mod-pow-add, mod-mod-pow}
use Rattle.lines.specs.Sum.{sum}
use Rattle.lines.specs.First.{first}
use Rattle.lines.specs.Square.{table}
use Rattle.lines.specs.Sets.{has, with, without, all, rest, joined}
use Rattle.lines.proofs.Tests.{T_true, by_cases}
use Rattle.lines.proofs.Firsts.{first_is, first_at}
use Rattle.lines.proofs.Squares.{table_ext}
use Rattle.lines.proofs.Sums.{sum_front}
use Rattle.lines.proofs.Sets.{has_suc, has_low, has_up, has_le, has_empty, member_lt, with_yes, with_no, without_yes, without_no}
use Rattle.lines.proofs.Bits.{lowest_is, lowest_lt}

-- ---- two words: the digits of r below, and those of a above

pub has_below : (b a r i : ℕ) → i < b → has (a * 2 ^ b + r) i ≡ has r i
has_below zero a r i h = absurd (omega arith)
has_below (suc b) a r zero h = has_low (a * 2 ^ suc b + r) r (block_odd a b r)
has_below (suc b) a r (suc i) h =
    has_up (a * 2 ^ suc b + r) (a * 2 ^ b + r / 2) i (block_half a b r) ∙ has_below b a (r / 2) i (omega arith) ∙ sym (has_suc r i)

pub has_above : (b a r i : ℕ) → r < 2 ^ b → has (a * 2 ^ b + r) (b + i) ≡ has a i
unfolding has
has_above b a r i h = ap (λ (x : ℕ). eqb (x % 2) 1) (sym (shr-shr (a * 2 ^ b + r) b i) ∙ ap (λ (x : ℕ). x / 2 ^ i) (high a b h))

with_below : (b a r i : ℕ) → i < b → with (a * 2 ^ b + r) i ≡ a * 2 ^ b + with r i
with_below b a r i h =
    by_cases (has r i)
    (λ y. omega (arith, with_yes (a * 2 ^ b + r) i (has_below b a r i h ∙ y), with_yes r i y))
    (λ y. omega (arith, with_no (a * 2 ^ b + r) i (has_below b a r i h ∙ y), with_no r i y))

without_below : (b a r i : ℕ) → i < b → without (a * 2 ^ b + r) i ≡ a * 2 ^ b + without r i
without_below b a r i h =
    by_cases (has r i)
    (λ y. omega (arith, has_le r i y, without_yes (a * 2 ^ b + r) i (has_below b a r i h ∙ y), without_yes r i y))
    (λ y. omega (arith, without_no (a * 2 ^ b + r) i (has_below b a r i h ∙ y), without_no r i y))

-- a digit more above
up_add : (b a i : ℕ) → (a + 2 ^ i) * 2 ^ b ≡ a * 2 ^ b + 2 ^ (b + i)
up_add b a i = omega (arith, add-mul a (2 ^ i) (2 ^ b), pow-add 2 b i, mul_comm (2 ^ b) (2 ^ i))

with_above : (b a r i : ℕ) → r < 2 ^ b → with (a * 2 ^ b + r) (b + i) ≡ with a i * 2 ^ b + r
with_above b a r i h =
    by_cases (has a i)
    (λ y. rw (with_yes a i y) (with_yes (a * 2 ^ b + r) (b + i) (has_above b a r i h ∙ y)))
    (λ y. rw (with_no a i y) (omega (arith, with_no (a * 2 ^ b + r) (b + i) (has_above b a r i h ∙ y), up_add b a i)))

without_above : (b a r i : ℕ) → r < 2 ^ b → without (a * 2 ^ b + r) (b + i) ≡ without a i * 2 ^ b + r
without_above b a r i h =
    by_cases (has a i)
    (λ y.
    let back : a ≡ without a i + 2 ^ i = omega (arith, without_yes a i y, has_le a i y) in
    omega (arith, without_yes (a * 2 ^ b + r) (b + i) (has_above b a r i h ∙ y), ap (λ (x : ℕ). x * 2 ^ b) back, up_add b (without a i) i))
    (λ y. rw (without_no a i y) (without_no (a * 2 ^ b + r) (b + i) (has_above b a r i h ∙ y)))

-- ---- words

-- each word is one: what an array of words knows of its elements
abbrev pub Words : ℕ → List ℕ → Type 0
Words b ws = (k : ℕ) → get_or ws k 0 < 2 ^ b

some_digit : (b m i : ℕ) → i < m * b → 0 < b
some_digit zero m i h = absurd (omega arith)
some_digit (suc b) m i h = omega arith

word_up : (b q r : ℕ) → suc q * b + r ≡ b + (q * b + r)
word_up b q r = omega (arith, suc-mul q b)

-- line r of word q
has_word : (b : ℕ) (ws : List ℕ) (q r : ℕ) → Words b ws → r < b → has (joined b ws) (q * b + r) ≡ has (get_or ws q 0) r
unfolding joined
has_word b [] q r f h = has_empty (q * b + r) ∙ sym (has_empty r)
has_word b (w ∷ ws) zero r f h = ap (λ (x : ℕ). has (joined b ws * 2 ^ b + w) x) (omega (arith, zero-mul b)) ∙ has_below b (joined b ws) w r h
has_word b (w ∷ ws) (suc q) r f h =
    ap (λ (x : ℕ). has (joined b ws * 2 ^ b + w) x) (word_up b q r)
    ∙ has_above b (joined b ws) w (q * b + r) (f zero) ∙ has_word b ws q r (λ k. f (suc k)) h

-- what changes one line of the digits below, or above, and leaves the others changes one word
module _ (op : ℕ → ℕ → ℕ) (below : (b a r i : ℕ) → i < b → op (a * 2 ^ b + r) i ≡ a * 2 ^ b + op r i)
    (above : (b a r i : ℕ) → r < 2 ^ b → op (a * 2 ^ b + r) (b + i) ≡ op a i * 2 ^ b + r) where
  op_word : (b : ℕ) (ws : List ℕ) (q r : ℕ) → Words b ws → r < b → q < length ws → op (joined b ws) (q * b + r) ≡ joined b (set ws q (op (get_or ws q 0) r))
  unfolding joined
  op_word b [] q r f h l = absurd (omega arith)
  op_word b (w ∷ ws) zero r f h l = ap (λ (x : ℕ). op (joined b ws * 2 ^ b + w) x) (omega (arith, zero-mul b)) ∙ below b (joined b ws) w r h
  op_word b (w ∷ ws) (suc q) r f h l =
      ap (λ (x : ℕ). op (joined b ws * 2 ^ b + w) x) (word_up b q r)
      ∙ above b (joined b ws) w (q * b + r) (f zero)
      ∙ ap (λ (x : ℕ). x * 2 ^ b + w) (op_word b ws q r (λ k. f (suc k)) h (omega arith))

  op_joined : (b : ℕ) (ws : List ℕ) (i : ℕ) → Words b ws → i < length ws * b → op (joined b ws) i ≡ joined b (set ws (i / b) (op (get_or ws (i / b) 0) (i % b)))
  op_joined b ws i f l =
      let p = some_digit b (length ws) i l in
      ap (op (joined b ws)) (sym (div-add-mod' i b)) ∙ op_word b ws (i / b) (i % b) f (mod-lt i p) ((div-lt_iff_lt-mul p).1 l)

module _ (b : ℕ) where
  pub has_joined : (ws : List ℕ) (i : ℕ) → Words b ws → 0 < b → has (joined b ws) i ≡ has (get_or ws (i / b) 0) (i % b)
  has_joined ws i f p = ap (has (joined b ws)) (sym (div-add-mod' i b)) ∙ has_word b ws (i / b) (i % b) f (mod-lt i p)

  pub with_joined : (ws : List ℕ) (i : ℕ) → Words b ws → i < length ws * b
      → with (joined b ws) i ≡ joined b (set ws (i / b) (with (get_or ws (i / b) 0) (i % b)))
  with_joined = op_joined with with_below with_above b

  pub without_joined : (ws : List ℕ) (i : ℕ) → Words b ws → i < length ws * b
      → without (joined b ws) i ≡ joined b (set ws (i / b) (without (get_or ws (i / b) 0) (i % b)))
  without_joined = op_joined without without_below without_above b

  -- ---- all words together

  wide : (ws : List ℕ) → Words b ws → joined b ws < 2 ^ (length ws * b)
  unfolding joined
  wide [] f = pow_pos (0 * b)
  wide (w ∷ ws) f =
      rw (suc-mul (length ws) b, pow-add 2 (length ws * b) b) (digits_lt (wide ws (λ k. f (suc k))) (f zero))

  pub joined_lt : (ws : List ℕ) (m : ℕ) → Words b ws → length ws * b ≤ m → joined b ws < 2 ^ m
  joined_lt ws m f l = omega (arith, wide ws f, pow_mono l)

  -- words that are all empty are the empty set
  pub joined_none : (ws : List ℕ) → ((k : ℕ) → k < length ws → get_or ws k 0 ≡ 0) → joined b ws ≡ 0
  unfolding joined
  joined_none [] e = refl
  joined_none (w ∷ ws) e = omega (arith, ap (λ (x : ℕ). x * 2 ^ b) (joined_none ws (λ k h. e (suc k) (omega arith))), zero-mul (2 ^ b), e zero (omega arith))

  -- as many words, the same set: the same words
  pub joined_same : (us ws : List ℕ) → Words b us → Words b ws → length us ≡ length ws → joined b us ≡ joined b ws → us ≡ ws
  unfolding joined
  joined_same [] [] f g l e = refl
  joined_same [] (w ∷ ws) f g l e = absurd (omega arith)
  joined_same (u ∷ us) [] f g l e = absurd (omega arith)
  joined_same (u ∷ us) (w ∷ ws) f g l e =
      ap₂ ◌∷◌
      (sym (low (joined b us) b (f zero)) ∙ ap (λ (x : ℕ). x % 2 ^ b) e ∙ low (joined b ws) b (g zero))
      (joined_same us ws (λ k. f (suc k)) (λ k. g (suc k)) (omega arith)
      (sym (high (joined b us) b (f zero)) ∙ ap (λ (x : ℕ). x / 2 ^ b) e ∙ high (joined b ws) b (g zero)))

  -- the members of all words, word by word
  pub ones_joined : (ws : List ℕ) → Words b ws → ones (joined b ws) ≡ sum (λ k. ones (get_or ws k 0)) (length ws)
  unfolding joined sum
  ones_joined [] f = ones-ones 0
  ones_joined (w ∷ ws) f =
      omega (arith, ones_cat b (joined b ws) w (f zero), ones_joined ws (λ k. f (suc k)), sum_front (λ k. ones (get_or (w ∷ ws) k 0)) (length ws))

  -- the lowest member is that of the first word that is not empty
  pub lowest_joined : (ws : List ℕ) (q m : ℕ) → Words b ws → length ws * b ≤ m → ((k : ℕ) → k < q → get_or ws k 0 ≡ 0) → get_or ws q 0 ≢ 0
      → q * b + count_trailing_zeros b (get_or ws q 0) ≡ count_trailing_zeros m (joined b ws)
  lowest_joined ws q m f l e z =
      let w = get_or ws q 0 in
      let r : ℕ = first (has w) b in
      let t : ℕ = q * b + r in
      let g = first_is (has w) b in
      let small : r < b = lowest_lt b w (f q) z in
      let member = has_word b ws q r f small ∙ T_true (has w r) (g.hit small) in
      let below = member_lt m (joined b ws) t (joined_lt ws m f l) member in
      rw (lowest_is b w, lowest_is m (joined b ws)) (sym (first_at (has (joined b ws)) m t below (rw member tt) (before r small g.before)))
    where
      before : (r : ℕ) → r < b → ((i : ℕ) → i < r → T (not (has (get_or ws q 0) i))) → (j : ℕ) → j < q * b + r → T (not (has (joined b ws) j))
      before r small g j h =
          let p : 0 < b = omega arith in
          rw (has_joined ws j f p) (dite (dec_lt (j / b) q)
          (λ k. rw (e (j / b) k, has_empty (j % b)) tt)
          (λ k.
          let over : q ≤ j / b = omega arith in
          let top : j / b < suc q = (div-lt_iff_lt-mul p).1 (omega (arith, suc-mul q b)) in
          let eq : j / b ≡ q = omega arith in
          rw eq (g (j % b) (omega (arith, div-add-mod' j b, mul-le-mul_right b over)))))

-- ---- the lines that are missing

rest_above : (b m a r : ℕ) → r < 2 ^ b → rest (m + b) (a * 2 ^ b + r) ≡ rest m a * 2 ^ b + rest b r
unfolding rest all
rest_above b m a r h =
    let x : ℕ = a % 2 ^ m in
    let y : ℕ = (2 ^ m - 1) - x in
    let cut : (a * 2 ^ b + r) % 2 ^ (m + b) ≡ x * 2 ^ b + r =
    mod-pow-add (a * 2 ^ b + r) m b ∙ ap₂ (λ (u v : ℕ). u % 2 ^ m * 2 ^ b + v) (high a b h) (low a b h) in
    let le : x < 2 ^ m = mod-lt a (pow_pos m) in
    let back : 2 ^ m - 1 ≡ y + x = omega arith in
    omega (arith, cut, ones_split m b, ap (λ (u : ℕ). u * 2 ^ b) back, add-mul y x (2 ^ b), mod-eq_of_lt {n = r} {m = 2 ^ b} h)

rest_within : (b m a r : ℕ) → m ≤ b → r < 2 ^ b → rest m (a * 2 ^ b + r) ≡ rest m r
unfolding rest all
rest_within b m a r l h =
    ap (λ (x : ℕ). (2 ^ m - 1) - x)
    (sym (mod-mod-pow (a * 2 ^ b + r) (b - m) m) ∙ ap (λ (x : ℕ). (a * 2 ^ b + r) % 2 ^ x % 2 ^ m) (omega arith) ∙ ap (λ (x : ℕ). x % 2 ^ m) (low a b h))

pub rest_zero : (s : ℕ) → rest 0 s ≡ 0
unfolding rest all
rest_zero s = omega arith

rest_cat : (b n a r : ℕ) → r < 2 ^ b → rest n (a * 2 ^ b + r) ≡ rest (n - b) a * 2 ^ b + rest (min b n) r
rest_cat b n a r h =
    dite (dec_lt b n)
    (λ l. ap (λ (x : ℕ). rest x (a * 2 ^ b + r)) (omega arith) ∙ rest_above b (n - b) a r h ∙ ap (λ (x : ℕ). rest (n - b) a * 2 ^ b + rest x r) (omega arith))
    (λ l.
    let none : rest (n - b) a ≡ 0 = ap (λ (x : ℕ). rest x a) (omega arith) ∙ rest_zero a in
    let small : min b n ≡ n = omega arith in
    rw (none, small) (omega (arith, zero-mul (2 ^ b), rest_within b n a r (omega arith) h)))

module _ (b : ℕ) where
  -- word by word: each word's among the lines of it that are below n
  pub rest_joined : (n : ℕ) (ws : List ℕ) → Words b ws → n ≤ length ws * b
      → joined b (table (λ q. rest (min b (n - q * b)) (get_or ws q 0)) (length ws)) ≡ rest n (joined b ws)
  unfolding joined table
  rest_joined n [] f l = sym (ap (λ (x : ℕ). rest x 0) (omega (arith, zero-mul b)) ∙ rest_zero 0)
  rest_joined n (w ∷ ws) f l =
      let same = table_ext _ _ (length ws) (λ i h. ap (λ (x : ℕ). rest (min b x) (get_or ws i 0)) (less i)) in
      let above = ap (joined b) same ∙ rest_joined (n - b) ws (λ k. f (suc k)) (omega (arith, suc-mul (length ws) b)) in
      ap₂ (λ (u v : ℕ). u * 2 ^ b + rest (min b v) w) above (omega (arith, zero-mul b)) ∙ sym (rest_cat b n (joined b ws) w (f zero))
    where
      less : (i : ℕ) → n - suc i * b ≡ n - b - i * b
      less i = omega (arith, suc-mul i b)
