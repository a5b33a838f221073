-- Theorems of the word: the test of two words tells whether they are one.
use mathlib.Core.Path.{◌≡◌, refl, subst}
use mathlib.Core.Bool.{Bool, true, false, not}
use mathlib.Core.List.{List}
use Prim.Native.Nat.{ℕ}
use lib.Dec.{T, eqb, eqb→eq}
use lib.ListN.{length, get_or}
use lib.Pointwise.{pointwise, bytes_decides}
use lib.Seq.{ext_get_or}
use Rattle.lines.specs.First.{any}
use Rattle.lines.proofs.Tests.{T_true, T_same, T_or, both, and_left, and_right, eqb_yes, cases}
use Rattle.lines.proofs.Firsts.{any_is, any_no}
use Rattle.price_list.specs.Word.{same}

twice : (x : Bool) → T (not (not x)) → T x
twice true t = tt
twice false t = t

apart : (x : Bool) → T x → T (not x) → ⊥
apart true t f = f
apart false t f = t

module _ (word other : List ℕ) where
  -- a byte that differs
  abbrev differs : ℕ → Bool
  differs i = not (eqb (get_or word i 0) (get_or other i 0))

  pub same_one : T (same word other) → word ≡ other
  unfolding same
  same_one t =
      let long = and_left (eqb (length word) (length other)) (not (any differs (length word))) t in
      let none = and_right (eqb (length word) (length other)) (not (any differs (length word))) t in
      ext_get_or 0 word other (eqb→eq _ _ long) (λ i h. eqb→eq _ _ (twice (eqb (get_or word i 0) (get_or other i 0)) (any_no differs (length word) none i h)))

pub one_same : (word : List ℕ) → T (same word word)
unfolding same
one_same word =
    both (eqb (length word) (length word)) _ (eqb_yes (length word) (length word) refl)
    (cases (T_or (any (differs word word) (length word)))
    (λ t.
    let found = any_is (differs word word) (length word) t in
    let byte = get_or word found.0 0 in
    absurd (apart (eqb byte byte) (eqb_yes byte byte refl) found.2))
    (λ t. t))

-- slices are compared as the definition has it
pub compared : (word other : List ℕ) → pointwise eqb word other ≡ same word other
compared word other =
    T_same (pointwise eqb word other) (same word other)
    (λ t. subst (λ l. T (same word l)) ((bytes_decides word other).0 (T_true _ t)) (one_same word))
    (λ t. rw ((bytes_decides word other).1 (same_one word other t)) tt)
