-- Numbers held against what is said, one a turn.
use mathlib.Core.Path.{◌≡◌, refl, subst}
use mathlib.Core.Bool.{Bool, true, false, not, ◌&&◌, ◌||◌, false≢true}
use mathlib.Core.List.{List}
use Prim.Native.Nat.{ℕ, ◌+◌, ◌<◌}
use native.Mathlib.Omega.{arith}
use lib.IntN.{ℤ, pos}
use lib.ListN.{length, get_or}
use Rattle.steps.specs.declared.Answer.{Answer}
use Rattle.steps.specs.Lent.{Task, Buffers}
use Rattle.steps.specs.Promise.{Promise}
use Rattle.calls.specs.declared.Lengths.{Lengths}
use Rattle.calls.specs.declared.Before.{Before}
use Rattle.calls.specs.Numbers.{Says, SaysAll}
use Rattle.calls.specs.Kept.{filled}

-- both of two tests
pub both : (a b : Bool) → (a && b) ≡ true → (a ≡ true) × (b ≡ true)
both true b e = (refl, e)
both false b e = absurd (false≢true e)

-- where it counts, it holds
pub counted : (counts holds : Bool) → (not counts || holds) ≡ true → counts ≡ true → holds ≡ true
counted true holds e c = e
counted false holds e c = absurd (false≢true c)

-- the numbers below i are said
pub record SaysBelow {T : Type 0} (shows : T → ℤ → Type 0) (said : List ℤ) (start : ℕ) (numbers : List T) (i : ℕ) : Type 0 where
  pub says : (k : ℕ) → k < i → (d : T) → k < length numbers → shows (get_or numbers k d) (get_or said (start + k) (pos 0))

-- a list of numbers, all of which are said
pub says_all : {T : Type 0} {shows : T → ℤ → Type 0} {said : List ℤ} {start count : ℕ} (number : T → ℤ) (d : T) (numbers : List T)
    → ((x : T) (z : ℤ) → shows x z → z ≡ number x) → length numbers ≡ count → SaysAll shows said start numbers
    → Says said start count (λ i. number (get_or numbers i d))
says_all number d numbers tie h s = record { says = λ i l. tie _ _ (s.says i d (omega arith)) }

-- the code reads a signed number back from its bits
pub refilled : (l : Lengths) (b : Before) {w p : ℤ} {t : Task} {a : Answer} {after : Buffers} → w ≡ b.working → p ≡ b.price
    → Promise 64 t (filled l (record { working = w; mark = b.mark; column = b.column; price = p })) a after → Promise 64 t (filled l b) a after
refilled l b {w} {p} {t} {a} {after} e f h =
    subst (λ (z : ℤ). Promise 64 t (filled l (record { working = b.working; mark = b.mark; column = b.column; price = z })) a after) f
    (subst (λ (z : ℤ). Promise 64 t (filled l (record { working = z; mark = b.mark; column = b.column; price = p })) a after) e h)
