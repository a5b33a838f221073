-- The kept columns after a path was flipped: each stays known, for no column becomes free.
use mathlib.Core.Path.{◌≡◌, ap}
use mathlib.Core.List.{List}
use Prim.Native.Nat.{ℕ, ◌≤◌}
use lib.IntN.{ℤ}
use lib.ListN.{length}
use Rattle.keyed.specs.Opening.{Known}
use Rattle.keyed.proofs.Cheapests.{known_fewer}
use Rattle.starred.specs.Columns.{starred}
use Rattle.starred.specs.Flipping.{flipped, Follows}
use Rattle.starred.proofs.Free.{is_free, free_is, flipped_free}

module _ (n : ℕ) (prime : List ℕ) where
  pub known_flipped : (star owner : List ℕ) {star' owner' : List ℕ} (i j : ℕ) (keys row_prices column_prices : List ℤ) (cheapest : List ℕ)
      → Follows n prime n owner i j → n ≤ length owner → (star', owner') ≡ flipped n prime n star owner i j
      → Known n (starred n owner) keys row_prices column_prices cheapest → Known n (starred n owner') keys row_prices column_prices cheapest
  known_flipped star owner {star'} {owner'} i j keys row_prices column_prices cheapest f long e known =
      known_fewer n (starred n owner) (starred n owner') keys row_prices column_prices cheapest
      (λ a ha h. free_is n owner a ha (flipped_free n prime n star owner i j f long a (rw (ap (λ x. x.1) e) at (is_free n owner' a ha h)))) known
