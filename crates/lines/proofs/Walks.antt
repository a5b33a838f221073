-- A walk over a set of lines below n: the lowest is met and taken out, until none is left. So it meets just the members, rising, and what a
-- loop keeps from line to line passes over the lines between two of them.
use mathlib.Core.Path.{◌≡◌, refl, sym, ap, ◌∙◌}
use mathlib.Core.Logic.{◌≢◌, dite}
use mathlib.Core.Bool.{Bool, true, false, not, cond}
use Prim.Native.Nat.{ℕ, zero, suc, ◌+◌, ◌%◌, ◌^◌, ◌≤◌, ◌<◌}
use native.Mathlib.Nat.{mod-lt, div-add-mod'}
use native.Mathlib.Decide.{ℕ_discrete, dec_lt}
use native.Mathlib.Omega.{arith}
use borrow.Author.Tests.{not-true, not-false}
use lib.Pow.{pow_pos}
use Rattle.lines.specs.First.{first}
use Rattle.lines.specs.Sets.{has, without, rest}
use Rattle.lines.specs.Walk.{Meets}
use Rattle.lines.proofs.Tests.{T_true, T_false, clash}
use Rattle.lines.proofs.Firsts.{first_is, first_at, first_none}
use Rattle.lines.proofs.Sets.{has_empty, has_rest, rest_lt, without_le, without_lt, without_same, without_other}
use Rattle.lines.proofs.Bits.{lowest_lt}
use Rattle.lines.proofs.Words.{has_below}

-- what holds at i and passes from line to line holds at j
pass : (P : ℕ → Type 0) (i j : ℕ) → i ≤ j → P i → ((k : ℕ) → i ≤ k → k < j → P k → P (k + 1)) → P j
pass P i zero h p f = let e : i ≡ 0 = omega arith in rw e at p
pass P i (suc j) h p f =
    dite (ℕ_discrete i (suc j))
    (λ e. rw e at p)
    (λ ne.
    let e : j + 1 ≡ suc j = omega arith in
    rw e at (f j (omega arith) (omega arith) (pass P i j (omega arith) p (λ k l m. f k l (omega arith)))))

-- of the set s, `left` is what is still to be met: all from its lowest line on. P is what the loop keeps, at that line; with nothing left, at n
pub record Walk (n s : ℕ) (P : ℕ → Type 0) (left : ℕ) : Type 0 where
  pub bound : left < 2 ^ n
  pub above : (k : ℕ) → k < n → first (has left) n ≤ k → has left k ≡ has s k
  pub kept : P (first (has left) n)

-- P passes over the lines that are no members
abbrev pub Passes : ℕ → ℕ → (ℕ → Type 0) → Type 0
Passes n s P = (k : ℕ) → k < n → has s k ≡ false → P k → P (k + 1)

-- the walk meets line t, the lowest of a word of d digits. The turn may change what is kept, from P at t to Q after it; `next` is left then
pub record Met (d n s : ℕ) (P : ℕ → Type 0) (left t : ℕ) : Type 1 where
  pub below : t < n
  pub member : has s t ≡ true
  pub kept : P t
  pub less : (next : ℕ) → next ≡ without left (first (has left) d) → next < left
  pub on : (Q : ℕ → Type 0) (next : ℕ) → next ≡ without left (first (has left) d) → Q (t + 1) → Passes n s Q → Walk n s Q next

-- a line before the lowest is no member
before : (n s k : ℕ) → k < first (has s) n → has s k ≡ false
before n s k h = T_false (has s k) ((first_is (has s) n).before k h)

pub walk_begin : {n s : ℕ} {P : ℕ → Type 0} → s < 2 ^ n → P 0 → Passes n s P → Walk n s P s
walk_begin {n} {s} {P} h p f = record {
  bound = h;
  above = λ k l m. refl;
  kept = pass P 0 (first (has s) n) (omega arith) p (λ k l m. f k (omega (arith, (first_is (has s) n).most)) (before n s k m));
}

pub walk_end : {n s : ℕ} {P : ℕ → Type 0} {left : ℕ} → left ≡ 0 → Walk n s P left → P n
walk_end {n} {left = left} e w =
    let none : first (has left) n ≡ n = first_none (has left) n (λ i h. rw (e, has_empty i) tt) in
    rw none at w.kept

module _ {n s : ℕ} {P : ℕ → Type 0} {left t : ℕ} (d : ℕ) (small : n ≤ d) (some : left ≢ 0) (e : t ≡ first (has left) d) (w : Walk n s P left) where
  low : first (has left) n < n
  low = lowest_lt n left w.bound some

  lowest : first (has left) n ≡ t
  lowest = sym (e ∙ first_at (has left) d (first (has left) n) (omega (arith, low)) ((first_is (has left) n).hit low) (first_is (has left) n).before)

  below : t < n
  below = omega (arith, low, lowest)

  here : has left t ≡ true
  here = T_true (has left t) (rw lowest at ((first_is (has left) n).hit low))

  -- the next is above it
  rises : t < first (has (without left t)) n
  rises = dite (dec_lt (first (has (without left t)) n) n) (λ l. more l) (λ l. omega (arith, below))
    where
      more : first (has (without left t)) n < n → t < first (has (without left t)) n
      more l =
          let v = first (has (without left t)) n in
          let y : has (without left t) v ≡ true = T_true _ ((first_is (has (without left t)) n).hit l) in
          dite (ℕ_discrete v t)
          (λ q. clash (has (without left t) v) y (ap (has (without left t)) q ∙ without_same left t))
          (λ ne. dite (dec_lt t v) (λ h. h)
          (λ h. clash (has left v) (sym (without_other left t v ne) ∙ y) (before n left v (omega (arith, lowest)))))

  goes_on : (Q : ℕ → Type 0) → Q (t + 1) → Passes n s Q → Walk n s Q (without left t)
  goes_on Q q f = record {
    bound = omega (arith, w.bound, without_le left t);
    above = λ j h m. without_other left t j (λ c. omega (arith, rises)) ∙ w.above j h (omega (arith, lowest, rises));
    kept = pass Q (t + 1) (first (has (without left t)) n) (omega (arith, rises)) q (λ j l m. f j (under j m) (between j l m));
  }
    where
      under : (j : ℕ) → j < first (has (without left t)) n → j < n
      under j m = omega (arith, (first_is (has (without left t)) n).most)

      between : (j : ℕ) → t + 1 ≤ j → j < first (has (without left t)) n → has s j ≡ false
      between j l m =
          sym (w.above j (under j m) (omega (arith, lowest))) ∙ sym (without_other left t j (λ c. omega arith)) ∙ before n (without left t) j m

  pub walk_meets : Met d n s P left t
  walk_meets = record {
    below = below;
    member = sym (w.above t below (omega (arith, lowest))) ∙ here;
    kept = rw lowest at w.kept;
    less = λ next k. rw (k, ← e) (without_lt left t here);
    on = λ Q next k q f. rw (k, ← e) (goes_on Q q f);
  }

-- the same by one step of the code's walk, which meets t and leaves `next`
pub record Turn (n s : ℕ) (P : ℕ → Type 0) (t next : ℕ) : Type 1 where
  pub below : t < n
  pub member : has s t ≡ true
  pub kept : P t
  pub on : (Q : ℕ → Type 0) → Q (t + 1) → Passes n s Q → Walk n s Q next

pub walk_turn : {n s : ℕ} {P : ℕ → Type 0} {left t next : ℕ} → n ≤ 64 → Meets left t next → Walk n s P left → Turn n s P t next
walk_turn small m w =
    let met = walk_meets 64 small m.some m.lowest w in
    record { below = met.below; member = met.member; kept = met.kept; on = λ Q q f. met.on Q _ m.left q f }

-- ---- the sets that are walked over

-- what another set lacks: the members are not in that one, and the lines that are passed over are
pub lacked : (n s k : ℕ) → k < n → has (rest n s) k ≡ true → has s k ≡ false
lacked n s k h y = not-true (has s k) (sym (has_rest n s k h) ∙ y)

pub not_lacked : (n s k : ℕ) → k < n → has (rest n s) k ≡ false → has s k ≡ true
not_lacked n s k h y = not-false (has s k) (sym (has_rest n s k h) ∙ y)

-- a set's own lines below n, or those that it lacks
has_cut : (n s k : ℕ) → k < n → has (s % 2 ^ n) k ≡ has s k
has_cut n s k h = sym (ap (λ (x : ℕ). has x k) (sym (div-add-mod' s (2 ^ n))) ∙ has_below n _ _ k h)

module _ (n s : ℕ) where
  pub alike_lt : (b : Bool) → cond b (s % 2 ^ n) (rest n s) < 2 ^ n
  alike_lt true = mod-lt s (pow_pos n)
  alike_lt false = rest_lt n s

  pub alike : (b : Bool) (k : ℕ) → k < n → has (cond b (s % 2 ^ n) (rest n s)) k ≡ true → has s k ≡ b
  alike true k h y = sym (has_cut n s k h) ∙ y
  alike false k h y = lacked n s k h y

  pub unlike : (b : Bool) (k : ℕ) → k < n → has (cond b (s % 2 ^ n) (rest n s)) k ≡ false → has s k ≡ not b
  unlike true k h y = sym (has_cut n s k h) ∙ y
  unlike false k h y = not_lacked n s k h y
