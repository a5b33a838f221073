-- Linear facts of the integers through `omega`, which reads the natural numbers alone.
-- An integer z is `P z - N z`. Each fact of integers is a linear fact of those parts, and none needs to know that one of the parts is 0.
-- `omega (signed, plus_parts a b, ..)` proves a linear goal over the integers: an order, an equation, or a fit.
use mathlib.Core.Path.{◌≡◌, refl, sym, ap, subst}
use mathlib.Core.Bool.{Bool, true, false}
use Prim.Native.Nat.{ℕ, zero, suc, ◌+◌, ◌-◌, ◌≤◌, ◌<◌, ◌^◌}
use native.Mathlib.Omega.{arith}
use lib.Dec.{T, ltb, ltb→lt, nltb→le, leb→le, le→leb, lt→ltb}
use Rattle.lines.specs.Bounds.{Within}
use Rattle.lines.proofs.Tests.{cond_ind}
use lib.IntN.{ℤ, pos, negsuc, neg_ℤ, sub_ℕ, ◌+ℤ◌, ◌-ℤ◌}
use lib.Signed.{◌≤ℤ◌, lt_z, mag}
use borrow.Author.Tests.{ltb-true, ltb-false}
use mir.Syntax.{Width}
use mir.Val.{SFits, hbits}

-- the positive and the negative part
abbrev pub P : ℤ → ℕ
P (pos n) = n
P (negsuc n) = 0

abbrev pub N : ℤ → ℕ
N (pos n) = 0
N (negsuc n) = suc n

-- ---- the difference of two naturals
pub sub_parts : (a b : ℕ) → P (sub_ℕ a b) + b ≡ a + N (sub_ℕ a b)
sub_parts a b = cond_ind (λ z. P z + b ≡ a + N z) (ltb a b) (negsuc (b - suc a)) (pos (a - b))
    (λ t. low (ltb→lt a b t)) (λ t. high (nltb→le a b t))
  where
    low : a < b → 0 + b ≡ a + suc (b - suc a)
    low h = omega arith

    high : b ≤ a → (a - b) + b ≡ a + 0
    high h = omega arith

pub subℕ_pos : (a b : ℕ) → b ≤ a → sub_ℕ a b ≡ pos (a - b)
subℕ_pos a b h = cond_ind (λ z. z ≡ pos (a - b)) (ltb a b) (negsuc (b - suc a)) (pos (a - b))
    (λ t. absurd (no (ltb→lt a b t))) (λ t. refl)
  where
    no : a < b → ⊥
    no k = omega arith

-- ---- the operations
pub neg_parts : (a : ℤ) → P (neg_ℤ a) + P a ≡ N (neg_ℤ a) + N a
neg_parts (pos zero) = refl
neg_parts (pos (suc n)) = omega arith
neg_parts (negsuc n) = omega arith

pub plus_parts : (a b : ℤ) → P (a +ℤ b) + (N a + N b) ≡ P a + P b + N (a +ℤ b)
plus_parts (pos a) (pos b) = omega arith
plus_parts (pos a) (negsuc b) = omega (arith, sub_parts a (suc b))
plus_parts (negsuc a) (pos b) = omega (arith, sub_parts b (suc a))
plus_parts (negsuc a) (negsuc b) = omega arith

pub minus_parts : (a b : ℤ) → P (a -ℤ b) + (N a + P b) ≡ P a + N b + N (a -ℤ b)
minus_parts a b = omega (arith, plus_parts a (neg_ℤ b), neg_parts b)

-- ---- facts to parts
pub le_parts : (a b : ℤ) → a ≤ℤ b → P a + N b ≤ P b + N a
le_parts (pos a) (pos b) h = omega (arith, leb→le a b h.le)
le_parts (pos a) (negsuc b) h = absurd h.le
le_parts (negsuc a) (pos b) h = omega arith
le_parts (negsuc a) (negsuc b) h = omega (arith, leb→le b a h.le)

pub lt_z_parts : (a b : ℤ) → lt_z a b ≡ true → P a + N b < P b + N a
lt_z_parts (pos a) (pos b) e = omega (arith, ltb-true a b e)
lt_z_parts (pos a) (negsuc b) e = absurd (subst T (sym e) tt)
lt_z_parts (negsuc a) (pos b) e = omega arith
lt_z_parts (negsuc a) (negsuc b) e = omega (arith, ltb-true b a e)

pub nlt_z_parts : (a b : ℤ) → lt_z a b ≡ false → P b + N a ≤ P a + N b
nlt_z_parts (pos a) (pos b) e = omega (arith, ltb-false a b e)
nlt_z_parts (pos a) (negsuc b) e = omega arith
nlt_z_parts (negsuc a) (pos b) e = absurd (subst T e tt)
nlt_z_parts (negsuc a) (negsuc b) e = omega (arith, ltb-false b a e)

pub eq_parts : (a b : ℤ) → a ≡ b → P a + N b ≡ P b + N a
eq_parts a b e = subst (λ z. P a + N z ≡ P z + N a) e (omega arith)

-- The bounds that a fit gives: `mag z`, of which `SFits w z` says that it is below a power, bounds both parts. List `size z` beside `signed`.
pub size : (z : ℤ) → (P z ≤ mag z) × (N z ≤ suc (mag z))
size (pos n) = (omega arith, omega arith)
size (negsuc n) = (omega arith, omega arith)

-- at least 0: the number is its positive part
pub whole : (a : ℤ) → pos 0 ≤ℤ a → a ≡ pos (P a)
whole (pos n) h = refl
whole (negsuc n) h = absurd h.le

-- ---- parts to facts
pub parts_le : (a b : ℤ) → P a + N b ≤ P b + N a → a ≤ℤ b
parts_le (pos a) (pos b) h = record { le = le→leb a b (omega arith) }
parts_le (pos a) (negsuc b) h = absurd (no h)
  where
    no : a + suc b ≤ 0 + 0 → ⊥
    no k = omega arith
parts_le (negsuc a) (pos b) h = record { le = tt }
parts_le (negsuc a) (negsuc b) h = record { le = le→leb b a (omega arith) }

pub parts_eq : (a b : ℤ) → P a + N b ≡ P b + N a → a ≡ b
parts_eq (pos a) (pos b) h = ap pos (omega arith)
parts_eq (pos a) (negsuc b) h = absurd (no h)
  where
    no : a + suc b ≡ 0 + 0 → ⊥
    no k = omega arith
parts_eq (negsuc a) (pos b) h = absurd (no h)
  where
    no : 0 + 0 ≡ b + suc a → ⊥
    no k = omega arith
parts_eq (negsuc a) (negsuc b) h = ap negsuc (omega arith)

is_true : (t : Bool) → T t → t ≡ true
is_true true h = refl
is_true false h = absurd h

is_false : (t : Bool) → (T t → ⊥) → t ≡ false
is_false true h = absurd (h tt)
is_false false h = refl

pub parts_lt_z : (a b : ℤ) → P a + N b < P b + N a → lt_z a b ≡ true
parts_lt_z (pos a) (pos b) h = is_true (ltb a b) (lt→ltb a b (omega arith))
parts_lt_z (pos a) (negsuc b) h = absurd (no h)
  where
    no : a + suc b < 0 + 0 → ⊥
    no k = omega arith
parts_lt_z (negsuc a) (pos b) h = refl
parts_lt_z (negsuc a) (negsuc b) h = is_true (ltb b a) (lt→ltb b a (omega arith))

pub parts_nlt_z : (a b : ℤ) → P b + N a ≤ P a + N b → lt_z a b ≡ false
parts_nlt_z (pos a) (pos b) h = is_false (ltb a b) (λ t. no (ltb→lt a b t))
  where
    no : a < b → ⊥
    no k = omega arith
parts_nlt_z (pos a) (negsuc b) h = refl
parts_nlt_z (negsuc a) (pos b) h = absurd (no h)
  where
    no : b + suc a ≤ 0 + 0 → ⊥
    no k = omega arith
parts_nlt_z (negsuc a) (negsuc b) h = is_false (ltb b a) (λ t. no (ltb→lt b a t))
  where
    no : b < a → ⊥
    no k = omega arith

-- one statement, for a rule takes one: of the two differences one is 0
pub parts_sfits : (w : Width) (z : ℤ) → (P z - N z) + (N z - suc (P z)) < 2 ^ hbits w → SFits w z
parts_sfits w (pos n) h = record { sfits = omega arith }
parts_sfits w (negsuc n) h = record { sfits = omega arith }

-- `omega`'s list: the facts of integers in scope are read as facts of parts, and a goal of integers is turned into one
pub ruleset signed = (arith, le_parts, lt_z_parts, nlt_z_parts, eq_parts, parts_le, parts_eq, parts_lt_z, parts_nlt_z, parts_sfits)

-- ---- bounds

pub within_zero : (L : ℕ) → Within L (pos 0)
within_zero L = record { above = omega (signed, neg_parts (pos L)); below = omega signed }

pub within_neg : {L : ℕ} {z : ℤ} → Within L z → Within L (neg_ℤ z)
within_neg {L} {z} b = record {
  above = omega (signed, b.below, neg_parts z, neg_parts (pos L));
  below = omega (signed, b.above, neg_parts z, neg_parts (pos L));
}

-- what is within a small bound fits its width
pub within_fits : {L : ℕ} {z : ℤ} (w : Width) → Within L z → L < 2 ^ hbits w → SFits w z
within_fits {L} {z} w b h = omega (signed, b.above, b.below, neg_parts (pos L))
