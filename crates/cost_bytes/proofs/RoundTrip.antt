-- Theorem: writing 32-bit numbers as bytes, and reading the bytes, gives the numbers back. With samples.
use mathlib.Core.Path.{◌≡◌, refl, ap, ◌∙◌}
use mathlib.Core.List.{List, [], ◌∷◌}
use Prim.Native.Nat.{ℕ, zero, suc, ◌+◌, ◌-◌, ◌*◌, ◌/◌, ◌%◌, ◌<◌}
use native.Mathlib.Omega.{arith}
use borrow.Author.Tests.{eq-eqb}
use lib.IntN.{ℤ, pos, negsuc}
use lib.ListN.{length, get_or}
use lib.Seq.{ext_get_or}
use mir.Syntax.{w32}
use mir.Val.{SFits}
use Rattle.lines.specs.Square.{table}
use Rattle.lines.proofs.Signed.{signed, minus_parts}
use Rattle.lines.proofs.Squares.{length_table, table_at}
use Rattle.cost_bytes.specs.Bytes.{little_endian, twos_complement, cost_of, decoded}
use Rattle.cost_bytes.proofs.ByteLaws.{low_half, high_half}

-- the 32 bits of a number in two's complement
unfoldable pub bits : ℤ → ℕ
bits (pos n) = n
bits (negsuc n) = 4_294_967_296 - suc n

-- the four bytes of each number, the lowest first
unfoldable pub encoded : List ℤ → List ℕ
encoded [] = []
encoded (z ∷ zs) =
    let x = bits z in
    x % 256 ∷ x / 256 % 256 ∷ x / 256 / 256 % 256 ∷ x / 256 / 256 / 256 % 256 ∷ encoded zs

-- ---- samples

sample : encoded (pos 1 ∷ negsuc 0 ∷ negsuc 999_999_999 ∷ []) ≡ 1 ∷ 0 ∷ 0 ∷ 0 ∷ 255 ∷ 255 ∷ 255 ∷ 255 ∷ 0 ∷ 54 ∷ 101 ∷ 196 ∷ []
unfolding encoded bits
sample = refl

-- 1, -1, -1,000,000,000 and 258
sample_back : decoded (1 ∷ 0 ∷ 0 ∷ 0 ∷ 255 ∷ 255 ∷ 255 ∷ 255 ∷ 0 ∷ 54 ∷ 101 ∷ 196 ∷ 2 ∷ 1 ∷ 0 ∷ 0 ∷ []) ≡ pos 1 ∷ negsuc 0 ∷ negsuc 999_999_999 ∷ pos 258 ∷ []
unfolding decoded cost_of twos_complement table
sample_back = refl

-- a byte too many, and nothing is there
sample_odd : decoded (1 ∷ 0 ∷ 0 ∷ 0 ∷ 0 ∷ []) ≡ []
unfolding decoded
sample_odd = refl

-- ---- one number

bits_lt : (z : ℤ) → SFits w32 z → bits z < 4_294_967_296
unfolding bits
bits_lt (pos n) f = omega (arith, f.sfits)
bits_lt (negsuc n) f = omega arith

four_back : (x : ℕ) → x < 4_294_967_296 → little_endian (x % 256) (x / 256 % 256) (x / 256 / 256 % 256) (x / 256 / 256 / 256 % 256) ≡ x
four_back x h = omega arith

signed_back : (z : ℤ) → SFits w32 z → twos_complement (bits z) ≡ z
unfolding bits
signed_back (pos n) f = low_half n f.sfits
signed_back (negsuc n) f =
    let m = f.sfits in
    let x = 4_294_967_296 - suc n in
    high_half x (omega arith) ∙ omega (signed, minus_parts (pos x) (pos 4_294_967_296))

-- ---- all of them

length_encoded : (zs : List ℤ) → length (encoded zs) ≡ 4 * length zs
unfolding encoded
length_encoded [] = refl
length_encoded (z ∷ zs) = omega (arith, length_encoded zs)

-- past the first four bytes
cost_next : (b0 b1 b2 b3 : ℕ) (bytes : List ℕ) (q : ℕ) → cost_of (b0 ∷ b1 ∷ b2 ∷ b3 ∷ bytes) (suc q) ≡ cost_of bytes q
unfolding cost_of
cost_next b0 b1 b2 b3 bytes q =
    let at : 4 * suc q ≡ suc (suc (suc (suc (4 * q)))) = omega arith in
    let at1 : 4 * suc q + 1 ≡ suc (suc (suc (suc (4 * q + 1)))) = omega arith in
    let at2 : 4 * suc q + 2 ≡ suc (suc (suc (suc (4 * q + 2)))) = omega arith in
    let at3 : 4 * suc q + 3 ≡ suc (suc (suc (suc (4 * q + 3)))) = omega arith in
    rw (at1, at2, at3, at)

-- every number is one of 32 bits
abbrev pub Fit32 : List ℤ → Type 0
Fit32 zs = (i : ℕ) → i < length zs → SFits w32 (get_or zs i (pos 0))

cost_back : (zs : List ℤ) → Fit32 zs → (q : ℕ) → q < length zs → cost_of (encoded zs) q ≡ get_or zs q (pos 0)
unfolding encoded cost_of
cost_back [] fit q h = absurd (omega arith)
cost_back (z ∷ zs) fit zero h = let f = fit 0 (omega arith) in ap twos_complement (four_back (bits z) (bits_lt z f)) ∙ signed_back z f
cost_back (z ∷ zs) fit (suc q) h = cost_next _ _ _ _ (encoded zs) q ∙ cost_back zs (λ i l. fit (suc i) (omega arith)) q (omega arith)

pub round_trip : (zs : List ℤ) → Fit32 zs → decoded (encoded zs) ≡ zs
unfolding decoded
round_trip zs fit =
    let n = length_encoded zs in
    let cells : length (encoded zs) / 4 ≡ length zs = omega (arith, n) in
    rw (eq-eqb (length (encoded zs) % 4) 0 (omega (arith, n)), cells)
    (ext_get_or (pos 0) (table (cost_of (encoded zs)) (length zs)) zs (length_table _ (length zs))
    (λ q h. let l = rw (length_table (cost_of (encoded zs)) (length zs)) at h in table_at (pos 0) _ (length zs) q l ∙ cost_back zs fit q l))
