-- What stands at an offset of a file, test by test; and what its number tells.
use mathlib.Core.Path.{◌≡◌, refl, sym, ap, ◌∙◌}
use mathlib.Core.Bool.{true, false, cond, ◌&&◌}
use mathlib.Core.List.{List, []}
use Prim.Native.Nat.{ℕ, ◌+◌, ◌-◌, ◌≤◌, ◌<◌}
use native.Mathlib.Omega.{arith}
use lib.Dec.{T, ltb, ltb→lt, nltb→le}
use lib.ListN.{length, get_or, take, drop}
use borrow.Author.Tests.{le-ltb, lt-ltb}
use Rattle.lines.proofs.Tests.{T_true, T_false, cond_ind, and_left, and_right}
use Rattle.std.specs.Prelude.{Result, Ok, Err}
use Rattle.records.specs.declared.Kind.{Kind}
use Rattle.records.specs.declared.Kind.TheVariants.{Size, Fragment, Event, End}
use Rattle.records.specs.declared.Missing.{Missing}
use Rattle.records.specs.declared.Missing.TheVariants.{Cut, Unknown}
use Rattle.records.specs.Records.{known, code_of, body_length, found, number, part, body, Whole, Finds}

pub code_known : (kind : Kind) {code : ℕ} → code_of kind ≡ code → known code ≡ true
unfolding known
code_known Size e = rw (← e) refl
code_known Fragment e = rw (← e) refl
code_known Event e = rw (← e) refl
code_known End e = rw (← e) refl

module _ (file : List ℕ) (at : ℕ) where
  pub past_end : length file ≤ at → Err Cut ≡ found file at
  unfolding found
  past_end h = rw (lt-ltb (length file) (at + 1) (omega arith))

  pub strange : at < length file → known (get_or file at 0) ≡ false → Err Unknown ≡ found file at
  unfolding found
  strange h k = rw (le-ltb (length file) (at + 1) (omega arith), k)

  module _ (h : at < length file) (k : known (get_or file at 0) ≡ true) {m : ℕ} (e : m ≡ body_length (get_or file at 0)) where
    pub short : length file - (at + 1) < m → Err Cut ≡ found file at
    unfolding found
    short s = rw (le-ltb (length file) (at + 1) (omega arith), k, lt-ltb (length file - (at + 1)) (body_length (get_or file at 0)) (omega arith))

    pub whole : m ≤ length file - (at + 1) → Ok m ≡ found file at
    unfolding found
    whole s = rw (le-ltb (length file) (at + 1) (omega arith), k, le-ltb (length file - (at + 1)) (body_length (get_or file at 0)) (omega arith), e)

module _ (file : List ℕ) (at : ℕ) where
  -- what a case says, whatever was found
  record Means (f : Result ℕ Missing) : Type 0 where
    whole_there : number f ≡ 0 → Whole file at
    cut_there : number f ≡ 21 → length file < at + 1 + body_length (get_or file at 0)
    unknown_there : number f ≡ 22 → (at < length file) × (known (get_or file at 0) ≡ false)
    size_there : (n : ℕ) → f ≡ Ok n → n ≡ body_length (get_or file at 0)

  means : Means (found file at)
  unfolding found
  means =
      let kind = get_or file at 0 in
      let size = body_length kind in
      let past = ltb (length file) (at + 1) in
      let short = ltb (length file - (at + 1)) size in
      let cut : length file < at + 1 + size → Means (Err Cut) = λ h. record {
        whole_there = λ e. absurd (omega arith);
        cut_there = λ e. h;
        unknown_there = λ e. absurd (omega arith);
        size_there = λ n e. let z : ◌≡◌ {A = ℕ} 0 1 = cc in absurd (omega arith);
      } in
      cond_ind Means past (Err Cut) _ (λ t. cut (omega (arith, ltb→lt (length file) (at + 1) t)))
      (λ t. let inside = nltb→le (length file) (at + 1) t in
      cond_ind Means (known kind) (cond short (Err Cut) (Ok size)) (Err Unknown)
      (λ k. cond_ind Means short (Err Cut) (Ok size) (λ u. cut (omega (arith, ltb→lt (length file - (at + 1)) size u)))
      (λ u. record {
        whole_there = λ e. record { kind_known = T_true _ k; fits = omega (arith, inside, nltb→le (length file - (at + 1)) size u) };
        cut_there = λ e. absurd (omega arith);
        unknown_there = λ e. absurd (omega arith);
        size_there = λ n e. cc;
      }))
      (λ k. record {
        whole_there = λ e. absurd (omega arith);
        cut_there = λ e. absurd (omega arith);
        unknown_there = λ e. (omega (arith, inside), T_false _ k);
        size_there = λ n e. let z : ◌≡◌ {A = ℕ} 0 1 = cc in absurd (omega arith);
      }))

  pub found_size : {n : ℕ} → found file at ≡ Ok n → n ≡ body_length (get_or file at 0)
  found_size {n} = means.size_there n

-- from what was found
module _ (file : List ℕ) (at : ℕ) {f : Result ℕ Missing} (e : f ≡ found file at) where
  pub finds : Finds file at f
  finds =
      let m : Means file at f = rw e (means file at) in
      record { exact = e; is_whole = m.whole_there; is_cut = m.cut_there; is_unknown = m.unknown_there }

  module _ {n : ℕ} (p : f ≡ Ok n) where
    pub found_whole : Whole file at
    found_whole = finds.is_whole (rw p)

    pub found_fits : at + 1 + n ≤ length file
    found_fits = omega (arith, found_size file at (sym e ∙ p), found_whole.fits)

    pub body_part : take (at + 1 + n - (at + 1)) (drop (at + 1) file) ≡ body file at
    unfolding body part
    body_part = let q : at + 1 + n - (at + 1) ≡ n = omega arith in rw q (ap (part file at) (sym p ∙ e))

  pub body_none : {missing : Missing} → f ≡ Err missing → [] ≡ body file at
  unfolding body part
  body_none p = ap (part file at) (sym p ∙ e)

-- how much a whole record of each kind takes
module _ (file : List ℕ) (at : ℕ) (w : Whole file at) where
  pub size_fits : get_or file at 0 ≡ 1 → at + 7 ≤ length file
  unfolding body_length
  size_fits k = omega (arith, rw k at w.fits)

  pub fragment_fits : get_or file at 0 ≡ 2 → at + 9 ≤ length file
  unfolding body_length
  fragment_fits k = omega (arith, rw k at w.fits)

  pub event_fits : get_or file at 0 ≡ 3 → at + 7 ≤ length file
  unfolding body_length
  event_fits k = omega (arith, rw k at w.fits)

  -- the end's kind is the one that is left
  pub kind_between : (0 < get_or file at 0) × (get_or file at 0 < 5)
  unfolding known
  kind_between =
      let kind = get_or file at 0 in
      let both : T (ltb 0 kind && ltb kind 5) = rw w.kind_known tt in
      (ltb→lt 0 kind (and_left (ltb 0 kind) (ltb kind 5) both), ltb→lt kind 5 (and_right (ltb 0 kind) (ltb kind 5) both))
