-- Laws of costs as bytes: std's reading of four bytes is the definition's, which costs are read, and that the call's outcome does not ask for more.
use mathlib.Core.Path.{◌≡◌, sym, ap, ◌∙◌}
use mathlib.Core.Logic.{◌≢◌, dite}
use mathlib.Core.List.{List, [], ◌∷◌}
use Prim.Native.Nat.{ℕ, suc, ◌-◌, ◌*◌, ◌/◌, ◌%◌, ◌≤◌, ◌<◌}
use native.Mathlib.Nat.{mul-le-mul}
use native.Mathlib.Decide.{ℕ_discrete, dec_lt}
use native.Mathlib.Omega.{arith}
use borrow.Author.Tests.{lt-ltb, le-ltb, eq-eqb, ne_eqb}
use lib.IntN.{ℤ, pos, negsuc, ◌-ℤ◌}
use lib.ListN.{length, take}
use lib.Seq.{length-take-le, get_or-take, ext_get_or}
use mir.Syntax.{w32}
use mir.Val.{to_z}
use mir.Facts.{to_z_pos, to_z-neg}
use Rattle.std.specs.Int.{from_le_bytes}
use Rattle.lines.specs.Square.{table}
use Rattle.lines.proofs.Signed.{signed, minus_parts}
use Rattle.lines.proofs.Loops.{Passed}
use Rattle.lines.proofs.Squares.{length_table, table_at}
use Rattle.steps.specs.declared.Answer.{Answer}
use Rattle.steps.specs.Lent.{Buffers, task}
use Rattle.steps.specs.Refusal.{refused, verdict}
use Rattle.steps.specs.Outcome.{judged, Outcome}
use Rattle.steps.specs.Promise.{Promise}
use Rattle.steps.proofs.Promised.{promised}
use Rattle.rules.proofs.JudgeLaws.{rule_1, past_1, rule_2, past_2, rule_3}
use Rattle.cost_bytes.specs.Bytes.{little_endian, twos_complement, cost_of, decoded, readable}

-- ---- two's complement

pub low_half : (x : ℕ) → x < 2_147_483_648 → twos_complement x ≡ pos x
unfolding twos_complement
low_half x h = rw (lt-ltb x 2_147_483_648 h)

pub high_half : (x : ℕ) → 2_147_483_648 ≤ x → twos_complement x ≡ pos x -ℤ pos 4_294_967_296
unfolding twos_complement
high_half x h = rw (le-ltb x 2_147_483_648 h)

-- which is how std reads 32 bits as a signed number
pub signed_bits : (x : ℕ) → x < 4_294_967_296 → to_z w32 x ≡ twos_complement x
signed_bits x h =
    dite (dec_lt x 2_147_483_648) (λ l. to_z_pos w32 l ∙ sym (low_half x l)) (λ l.
    let k = 4_294_967_296 - suc x in
    let back : 4_294_967_296 - suc k ≡ x = omega arith in
    let below : pos x -ℤ pos 4_294_967_296 ≡ negsuc k = omega (signed, minus_parts (pos x) (pos 4_294_967_296)) in
    ap (to_z w32) (sym back) ∙ to_z-neg w32 k (omega arith) ∙ sym (high_half x (omega arith) ∙ below))

-- four bytes as std puts them together
pub four_bytes : (b0 b1 b2 b3 : ℕ) → from_le_bytes w32 (b0 ∷ b1 ∷ b2 ∷ b3 ∷ []) ≡ little_endian b0 b1 b2 b3
four_bytes b0 b1 b2 b3 = omega arith

-- ---- a list filled in front

pub filled_front : {A : Type 0} (d : A) (f : ℕ → A) (xs₀ xs : List A) (n i : ℕ) → n ≤ length xs → n ≤ i → Passed d (λ k x. f k) xs₀ xs i → take n xs ≡ table f n
filled_front d f xs₀ xs n i l h p =
    let e = length-take-le n xs l in
    ext_get_or d (take n xs) (table f n) (e ∙ sym (length_table f n))
    (λ k b. let b' : k < n = omega (arith, e) in get_or-take n xs k d b' ∙ p.done k (omega arith) ∙ sym (table_at d f n k b'))

-- ---- what is read

module _ (n bytes : ℕ) where
  pub readable_large : 64 < n → 0 ≡ readable n bytes
  unfolding readable
  readable_large h = rw (lt-ltb 64 n h)

  pub readable_none : n ≤ 64 → bytes ≢ 4 * (n * n) → 0 ≡ readable n bytes
  unfolding readable
  readable_none h ne = rw (le-ltb 64 n h, ne_eqb bytes (4 * (n * n)) ne)

  pub readable_all : n ≤ 64 → bytes ≡ 4 * (n * n) → n * n ≡ readable n bytes
  unfolding readable
  readable_all h e = rw (le-ltb 64 n h, eq-eqb bytes (4 * (n * n)) e)

  -- at most 4096 costs, and no more than the bytes have
  pub readable_fits : (readable n bytes ≤ 4096) × (4 * readable n bytes ≤ bytes)
  readable_fits =
      dite (dec_lt 64 n) (λ h. rw (← readable_large h) (omega arith, omega arith)) (λ h.
      let m : n ≤ 64 = omega arith in
      dite (ℕ_discrete bytes (4 * (n * n)))
      (λ e. rw (← readable_all m e) (omega (arith, mul-le-mul m m), omega (arith, e)))
      (λ ne. rw (← readable_none m ne) (omega arith, omega arith)))

pub readable_few : (n bytes : ℕ) {cells size : ℕ} → cells ≡ readable n bytes → size ≡ 4096 → cells ≤ size
readable_few n bytes e f = omega (arith, e, f, (readable_fits n bytes).0)

-- all that is lent, or nothing where that has not the length that it must have
data Read (n : ℕ) (bytes : List ℕ) : Type 0 where
  none : n ≡ 0 → Read n bytes
  whole : table (cost_of bytes) (readable n (length bytes)) ≡ decoded bytes → Read n bytes
  too_large : n ≢ 0 → 64 < n → Read n bytes
  wrong : n ≢ 0 → n ≤ 64 → length bytes ≢ 4 * (n * n) → Read n bytes

whole_read : (n : ℕ) (bytes : List ℕ) → n ≤ 64 → length bytes ≡ 4 * (n * n) → table (cost_of bytes) (readable n (length bytes)) ≡ decoded bytes
unfolding decoded
whole_read n bytes m e =
    let c : length bytes / 4 ≡ n * n = omega (arith, e) in
    rw (← readable_all n (length bytes) m e, eq-eqb (length bytes % 4) 0 (omega (arith, e)), c)

read : (n : ℕ) (bytes : List ℕ) → Read n bytes
read n bytes =
    dite (ℕ_discrete n 0) none (λ some.
    dite (dec_lt 64 n) (too_large some) (λ h.
    let m : n ≤ 64 = omega arith in
    dite (ℕ_discrete (length bytes) (4 * (n * n))) (λ e. whole (whole_read n bytes m e)) (wrong some m)))

-- other bytes are another number of costs, read or not
module _ (n : ℕ) (bytes : List ℕ) (some : n ≢ 0) (most : n ≤ 64) (ne : length bytes ≢ 4 * (n * n)) where
  cells_some : n * n ≢ 0
  cells_some z = let h : 1 ≤ n = omega arith in omega (arith, mul-le-mul h h)

  none_read : length (table (cost_of bytes) (readable n (length bytes))) ≢ n * n
  none_read e = cells_some (sym e ∙ length_table _ (readable n (length bytes)) ∙ sym (readable_none n (length bytes) most ne))

  others_lent : length (decoded bytes) ≢ n * n
  unfolding decoded
  others_lent =
      dite (ℕ_discrete (length bytes % 4) 0)
      (λ z. rw (eq-eqb (length bytes % 4) 0 z, length_table (cost_of bytes) (length bytes / 4)) (λ e. ne (omega (arith, e, z))))
      (λ z. rw (ne_eqb (length bytes % 4) 0 z) (λ e. cells_some (sym e)))

-- ---- refusals 1 to 3 do not depend on the costs

module _ (n : ℕ) (mask : List ℕ) (budget : ℕ) (before : Buffers) where
  abbrev Refuses : List ℤ → ℕ → Type 0
  Refuses costs number = verdict (task n costs mask budget) 64 before ≡ refused number 0

  refuses_1 : n ≡ 0 → (costs : List ℤ) → Refuses costs 1
  unfolding verdict
  refuses_1 e costs = rule_1 _ _ _ _ _ e

  refuses_2 : n ≢ 0 → 64 < n → (costs : List ℤ) → Refuses costs 2
  unfolding verdict
  refuses_2 some h costs = rule_2 _ _ _ _ _ (past_1 _ _ _ _ _ some) h

  refuses_3 : n ≢ 0 → n ≤ 64 → (costs : List ℤ) → length costs ≢ n * n → Refuses costs 3
  unfolding verdict
  refuses_3 some most costs ne = rule_3 _ _ _ _ _ (past_2 _ _ _ _ _ (past_1 _ _ _ _ _ some) most) (rw (ne_eqb (length costs) (n * n) ne))

  module _ {a : Answer} {after : Buffers} where
    alike : {costs costs' : List ℤ} {number : ℕ} → Refuses costs number → Refuses costs' number
        → Outcome 64 (task n costs mask budget) before a after → Outcome 64 (task n costs' mask budget) before a after
    unfolding judged
    alike e e' o = record { count = o.count; exact = rw e' (rw e at o.exact) }

    -- the costs that are read have the outcome of those that are lent
    read_outcome : (bytes : List ℕ) → Read n bytes → Outcome 64 (task n (table (cost_of bytes) (readable n (length bytes))) mask budget) before a after
        → Outcome 64 (task n (decoded bytes) mask budget) before a after
    read_outcome bytes (none z) o = alike (refuses_1 z _) (refuses_1 z _) o
    read_outcome bytes (whole e) o = rw e at o
    read_outcome bytes (too_large some h) o = alike (refuses_2 some h _) (refuses_2 some h _) o
    read_outcome bytes (wrong some most ne) o =
        alike (refuses_3 some most _ (none_read n bytes some most ne)) (refuses_3 some most _ (others_lent n bytes some most ne)) o

    -- the promise on the costs that were read is the promise on those that are lent
    pub read_promise : (bytes : List ℕ) (cells : ℕ) (costs : List ℤ) → cells ≡ readable n (length bytes) → costs ≡ table (cost_of bytes) cells
        → Promise 64 (task n costs mask budget) before a after → Promise 64 (task n (decoded bytes) mask budget) before a after
    read_promise bytes cells costs e f p = promised (read_outcome bytes (read n bytes) (rw (f ∙ ap (table (cost_of bytes)) e) at p.exact))
