-- Records as bytes: what is written reads back, and bytes are what is written of what they read.
use mathlib.Core.Path.{◌≡◌, refl, ap, ◌∙◌}
use mathlib.Core.List.{List, [], ◌∷◌, ◌++◌}
use Prim.Native.Nat.{ℕ, zero, suc, ◌+◌, ◌*◌, ◌/◌, ◌%◌, ◌≤◌, ◌<◌}
use native.Mathlib.Nat.{add-mul-mod_self_left, add-mul-div_left}
use native.Mathlib.Omega.{arith}
use lib.ListN.{length, get_or, drop}
use lib.Seq.{get_or-drop}
use Rattle.judgement.specs.Numbers.{AreBytes, u16_at, u32_at}
use Rattle.storm_case.specs.Format.{Fragment, Event, Line, row, column, little_endian, line_bytes, lines_bytes, encode, FragmentFits, EventFits}

-- ---- a number

back16 : (x : ℕ) → x < 65_536 → x % 256 + 256 * (x / 256 % 256) ≡ x
back16 x h = omega arith

back32 : (x : ℕ) → x < 4_294_967_296 → (x % 256 + 256 * (x / 256 % 256)) + 65_536 * (x / 256 / 256 % 256 + 256 * (x / 256 / 256 / 256 % 256)) ≡ x
back32 x h = omega arith

-- the lowest byte, and the bytes of the rest
low_byte : (k a y : ℕ) → a < 256 → little_endian (suc k) (a + 256 * y) ≡ a ∷ little_endian k y
unfolding little_endian
low_byte k a y h =
    let p : (a + 256 * y) % 256 ≡ a = add-mul-mod_self_left a 256 y ∙ omega arith in
    let q : (a + 256 * y) / 256 ≡ y = add-mul-div_left a y (omega arith) ∙ omega arith in
    rw (p, q)

two_bytes : (a b : ℕ) → a < 256 → b < 256 → little_endian 2 (a + 256 * b) ≡ a ∷ b ∷ []
unfolding little_endian
two_bytes a b ha hb =
    let p : b ≡ b + 256 * 0 = omega arith in
    low_byte 1 a b ha ∙ ap (λ (l : List ℕ). a ∷ l) (ap (little_endian 1) p ∙ low_byte 0 b 0 hb)

four_bytes : (a b c d : ℕ) → a < 256 → b < 256 → c < 256 → d < 256 → little_endian 4 ((a + 256 * b) + 65_536 * (c + 256 * d)) ≡ a ∷ b ∷ c ∷ d ∷ []
four_bytes a b c d ha hb hc hd =
    let p : (a + 256 * b) + 65_536 * (c + 256 * d) ≡ a + 256 * (b + 256 * (c + 256 * d)) = omega arith in
    rw (p, low_byte 3 a (b + 256 * (c + 256 * d)) ha, low_byte 2 b (c + 256 * d) hb, two_bytes c d hc hd)

-- ---- a number further on

pub u16_drop : (file : List ℕ) (at i : ℕ) → u16_at file (at + i) ≡ u16_at (drop at file) i
unfolding u16_at
u16_drop file at i =
    let p : at + i + 1 ≡ at + (i + 1) = omega arith in
    rw (get_or-drop at file i 0, get_or-drop at file (i + 1) 0, p)

pub u32_drop : (file : List ℕ) (at i : ℕ) → u32_at file (at + i) ≡ u32_at (drop at file) i
unfolding u32_at
u32_drop file at i =
    let p : at + i + 2 ≡ at + (i + 2) = omega arith in
    rw (p, u16_drop file at i, u16_drop file at (i + 2))

-- ---- a record

-- what a record's bytes say
abbrev pub row_in : List ℕ → Fragment
row_in bytes = record { hut = u16_at bytes 1; area = u16_at bytes 3; clock = u32_at bytes 5 }

abbrev pub column_in : List ℕ → Event
column_in bytes = record { area = u16_at bytes 1; clock = u32_at bytes 3 }

-- what is written reads back
pub row_back : (f : Fragment) (rest : List ℕ) → FragmentFits f → row_in (line_bytes (row f) ++ rest) ≡ f
unfolding line_bytes little_endian u16_at u32_at
row_back f rest h =
    let p = back16 f.hut h.hut in
    let q = back16 f.area h.area in
    let r = back32 f.clock h.clock in
    λ i. record { hut = p i; area = q i; clock = r i }

-- a size and an event have the same body: two bytes and four
pub six_back : (kind x y : ℕ) (rest : List ℕ) → x < 65_536 → y < 4_294_967_296
    → column_in (kind ∷ (little_endian 2 x ++ little_endian 4 y ++ rest)) ≡ record { area = x; clock = y }
unfolding little_endian u16_at u32_at
six_back kind x y rest hx hy =
    let p = back16 x hx in
    let q = back32 y hy in
    λ i. record { area = p i; clock = q i }

-- numbers that fit their bytes
pub small16 : (bytes : List ℕ) (p : ℕ) → AreBytes bytes → u16_at bytes p < 65_536
unfolding u16_at
small16 bytes p h = omega (arith, h p, h (p + 1))

pub small32 : (bytes : List ℕ) (p : ℕ) → AreBytes bytes → u32_at bytes p < 4_294_967_296
unfolding u32_at
small32 bytes p h = omega (arith, small16 bytes p h, small16 bytes (p + 2) h)

pub row_fits : (bytes : List ℕ) → AreBytes bytes → FragmentFits (row_in bytes)
row_fits bytes h = record { hut = small16 bytes 1 h; area = small16 bytes 3 h; clock = small32 bytes 5 h }

pub column_fits : (bytes : List ℕ) → AreBytes bytes → EventFits (column_in bytes)
column_fits bytes h = record { area = small16 bytes 1 h; clock = small32 bytes 3 h }

-- the first bytes one by one, then the rest
abbrev heads : ℕ → (ℕ → ℕ) → List ℕ → List ℕ
heads zero f rest = rest
heads (suc k) f rest = f 0 ∷ heads k (λ i. f (suc i)) rest

one_by_one : (k : ℕ) (bytes : List ℕ) → k ≤ length bytes → bytes ≡ heads k (λ i. get_or bytes i 0) (drop k bytes)
one_by_one zero bytes h = refl
one_by_one (suc k) [] h = absurd (omega arith)
one_by_one (suc k) (x ∷ bytes) h = ap (λ (l : List ℕ). x ∷ l) (one_by_one k bytes (omega arith))

-- a record of its kind and length is what is written of what it says
module _ (bytes : List ℕ) (small : AreBytes bytes) where
  two_from : (p : ℕ) → little_endian 2 (u16_at bytes p) ≡ get_or bytes p 0 ∷ get_or bytes (p + 1) 0 ∷ []
  unfolding u16_at
  two_from p = two_bytes (get_or bytes p 0) (get_or bytes (p + 1) 0) (small p) (small (p + 1))

  four_from : (p : ℕ) → little_endian 4 (u32_at bytes p)
      ≡ get_or bytes p 0 ∷ get_or bytes (p + 1) 0 ∷ get_or bytes (p + 2) 0 ∷ get_or bytes (p + 2 + 1) 0 ∷ []
  unfolding u16_at u32_at
  four_from p =
      four_bytes (get_or bytes p 0) (get_or bytes (p + 1) 0) (get_or bytes (p + 2) 0) (get_or bytes (p + 2 + 1) 0)
      (small p) (small (p + 1)) (small (p + 2)) (small (p + 2 + 1))

  pub row_written : 9 ≤ length bytes → get_or bytes 0 0 ≡ 2 → bytes ≡ line_bytes (row (row_in bytes)) ++ drop 9 bytes
  unfolding line_bytes
  row_written l e =
      rw (two_from 1, two_from 3, four_from 5) (one_by_one 9 bytes l ∙ ap (λ k. k ∷ heads 8 (λ i. get_or bytes (suc i) 0) (drop 9 bytes)) e)

  pub six_written : {kind : ℕ} → 7 ≤ length bytes → get_or bytes 0 0 ≡ kind
      → bytes ≡ kind ∷ (little_endian 2 (u16_at bytes 1) ++ little_endian 4 (u32_at bytes 3) ++ drop 7 bytes)
  six_written l e = rw (two_from 1, four_from 3) (one_by_one 7 bytes l ∙ ap (λ k. k ∷ heads 6 (λ i. get_or bytes (suc i) 0) (drop 7 bytes)) e)

-- ---- what is written are bytes

bytes_cons : (x : ℕ) (xs : List ℕ) → x < 256 → AreBytes xs → AreBytes (x ∷ xs)
bytes_cons x xs h small zero = h
bytes_cons x xs h small (suc i) = small i

bytes_append : (xs ys : List ℕ) → AreBytes xs → AreBytes ys → AreBytes (xs ++ ys)
bytes_append [] ys h k i = k i
bytes_append (x ∷ xs) ys h k zero = h 0
bytes_append (x ∷ xs) ys h k (suc i) = bytes_append xs ys (λ j. h (suc j)) k i

number_bytes : (k x : ℕ) → AreBytes (little_endian k x)
unfolding little_endian
number_bytes zero x = λ i. omega arith
number_bytes (suc k) x = bytes_cons (x % 256) (little_endian k (x / 256)) (omega arith) (number_bytes k (x / 256))

line_are_bytes : (line : Line) → AreBytes (line_bytes line)
unfolding line_bytes
line_are_bytes (row f) =
    let hut = little_endian 2 f.hut in
    let area = little_endian 2 f.area in
    let clock = little_endian 4 f.clock in
    bytes_cons 2 (hut ++ area ++ clock) (omega arith)
    (bytes_append (hut ++ area) clock (bytes_append hut area (number_bytes 2 f.hut) (number_bytes 2 f.area)) (number_bytes 4 f.clock))
line_are_bytes (column e) =
    let area = little_endian 2 e.area in
    let clock = little_endian 4 e.clock in
    bytes_cons 3 (area ++ clock) (omega arith) (bytes_append area clock (number_bytes 2 e.area) (number_bytes 4 e.clock))

lines_are_bytes : (lines : List Line) → AreBytes (lines_bytes lines)
unfolding lines_bytes
lines_are_bytes [] = bytes_cons 4 [] (omega arith) (λ i. omega arith)
lines_are_bytes (line ∷ lines) = bytes_append (line_bytes line) (lines_bytes lines) (line_are_bytes line) (lines_are_bytes lines)

pub case_are_bytes : (n window : ℕ) (lines : List Line) → AreBytes (encode n window lines)
unfolding encode
case_are_bytes n window lines =
    let size = little_endian 2 n in
    let apart = little_endian 4 window in
    bytes_cons 1 (size ++ apart ++ lines_bytes lines) (omega arith)
    (bytes_append (size ++ apart) (lines_bytes lines) (bytes_append size apart (number_bytes 2 n) (number_bytes 4 window)) (lines_are_bytes lines))
