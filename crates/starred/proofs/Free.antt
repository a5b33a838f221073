-- The free columns, those without a star: a path that is flipped frees none.
use mathlib.Core.Path.{◌≡◌, refl, sym, ◌∙◌}
use mathlib.Core.Logic.{dite}
use mathlib.Core.Bool.{Bool, true, false, cond}
use mathlib.Core.List.{List}
use Prim.Native.Nat.{ℕ, zero, suc, ◌≤◌, ◌<◌}
use native.Mathlib.Decide.{ℕ_discrete}
use native.Mathlib.Omega.{arith}
use borrow.Author.Tests.{ltb-false, le-ltb, ltb-true}
use lib.Dec.{ltb}
use lib.ListN.{length, get_or, set, length-set}
use lib.Seq.{get_or-set_same, get_or-set_other}
use Rattle.lines.specs.Sets.{has}
use Rattle.lines.proofs.Sets.{has_those}
use Rattle.starred.specs.Columns.{starred}
use Rattle.starred.specs.Flipping.{flipped, Follows}

starred_is : (n : ℕ) (owner : List ℕ) (j : ℕ) → j < n → has (starred n owner) j ≡ ltb (get_or owner j 0) n
starred_is n owner j h = has_those (λ j. ltb (get_or owner j 0) n) n j h

pub is_free : (n : ℕ) (owner : List ℕ) (j : ℕ) → j < n → has (starred n owner) j ≡ false → n ≤ get_or owner j 0
is_free n owner j h e = ltb-false (get_or owner j 0) n (sym (starred_is n owner j h) ∙ e)

pub free_is : (n : ℕ) (owner : List ℕ) (j : ℕ) → j < n → n ≤ get_or owner j 0 → has (starred n owner) j ≡ false
free_is n owner j h l = starred_is n owner j h ∙ le-ltb (get_or owner j 0) n l

-- what is free after a path was flipped was so before: no column loses its owner
module _ (n : ℕ) (prime : List ℕ) where
  pub flipped_free : (k : ℕ) (star owner : List ℕ) (i j : ℕ) → Follows n prime k owner i j → n ≤ length owner → (a : ℕ) → n ≤ get_or (flipped n prime k star owner i j).1 a 0 → n ≤ get_or owner a 0
  unfolding flipped Follows
  flipped_free zero star owner i j f long a l = l
  flipped_free (suc k) star owner i j f long a l = go (ltb (get_or owner j 0) n) refl l (λ h. flipped_free k (set star i j) (set owner j i) (get_or owner j 0) (get_or prime (get_or owner j 0) 0) (f.2 h) (rw (length-set owner j i) long) a)
    where
      was : n ≤ get_or (set owner j i) a 0 → n ≤ get_or owner a 0
      was h =
          dite (ℕ_discrete a j)
          (λ e. let q = get_or-set_same owner j i 0 (omega (arith, f.1)) in absurd (omega (arith, f.0, rw (e, q) at h)))
          (λ ne. rw (get_or-set_other owner j a i 0 ne) at h)

      go : (x : Bool) → ltb (get_or owner j 0) n ≡ x
          → n ≤ get_or (cond x (flipped n prime k (set star i j) (set owner j i) (get_or owner j 0) (get_or prime (get_or owner j 0) 0)) (set star i j, set owner j i)).1 a 0
          → (get_or owner j 0 < n → n ≤ get_or (flipped n prime k (set star i j) (set owner j i) (get_or owner j 0) (get_or prime (get_or owner j 0) 0)).1 a 0 → n ≤ get_or (set owner j i) a 0)
          → n ≤ get_or owner a 0
      go true e h before = was (before (ltb-true (get_or owner j 0) n e) h)
      go false e h before = was h
