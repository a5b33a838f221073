-- The path of step 5 as the code walks it: what is still to come from where it stands is the whole.
use mathlib.Core.Path.{◌≡◌, refl, sym, ap, ◌∙◌}
use mathlib.Core.List.{List}
use Prim.Native.Nat.{ℕ, suc, ◌+◌, ◌-◌, ◌≤◌, ◌<◌}
use native.Mathlib.Omega.{arith}
use borrow.Author.Tests.{lt-ltb, le-ltb}
use lib.ListN.{length, get_or, set, length-set}
use Rattle.starred.specs.Flipping.{flipped, Follows}

module _ (n : ℕ) (prime star₀ owner₀ : List ℕ) (row column : ℕ) where
  -- after `met` rows
  pub record Flipping (star owner : List ℕ) (i j met : ℕ) : Type 0 where
    pub few : met ≤ n
    pub follows : Follows n prime (n - met) owner i j
    pub same : flipped n prime (n - met) star owner i j ≡ flipped n prime n star₀ owner₀ row column
    pub star_long : length star ≡ length star₀
    pub owner_long : length owner ≡ length owner₀

  pub flipping_start : Follows n prime n owner₀ row column → Flipping star₀ owner₀ row column 0
  flipping_start f =
      let e : n - 0 ≡ n = omega arith in
      record { few = omega arith; follows = rw e f; same = rw e; star_long = refl; owner_long = refl }

  module _ {star owner : List ℕ} {i j met : ℕ} (p : Flipping star owner i j met) where
    pub flipping_out : n ≤ met → (star, owner) ≡ flipped n prime n star₀ owner₀ row column
    unfolding flipped
    flipping_out h = let e : n - met ≡ 0 = omega arith in sym (ap (λ k. flipped n prime k star owner i j) e) ∙ p.same

    module _ (h : met < n) where
      k : ℕ
      k = n - (met + 1)

      more : n - met ≡ suc k
      unfolding k
      more = omega arith

      here : Follows n prime (suc k) owner i j
      here = rw more at p.follows

      pub flipping_place : (i < n) × (j < n)
      unfolding Follows
      flipping_place = (here.0, here.1)

      whole : flipped n prime (suc k) star owner i j ≡ flipped n prime n star₀ owner₀ row column
      whole = ap (λ m. flipped n prime m star owner i j) (sym more) ∙ p.same

      pub flipping_end : n ≤ get_or owner j 0 → (set star i j, set owner j i) ≡ flipped n prime n star₀ owner₀ row column
      unfolding flipped
      flipping_end l = rw (le-ltb (get_or owner j 0) n l) at whole

      pub flipping_next : get_or owner j 0 < n → Flipping (set star i j) (set owner j i) (get_or owner j 0) (get_or prime (get_or owner j 0) 0) (met + 1)
      unfolding flipped Follows k
      flipping_next l = record {
        few = omega arith;
        follows = here.2 l;
        same = rw (lt-ltb (get_or owner j 0) n l) at whole;
        star_long = length-set star i j ∙ p.star_long;
        owner_long = length-set owner j i ∙ p.owner_long;
      }
