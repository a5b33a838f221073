-- Step 5 on the marks: flipping the places of the path moves the rows on it to their primes; the path ends in the square, with a prime wherever it looks for one.
use mathlib.Core.Path.{◌≡◌, refl, sym, ap, ◌∙◌}
use mathlib.Core.Logic.{◌≢◌}
use mathlib.Core.List.{List, [], ◌∷◌}
use mathlib.Core.Bool.{Bool, true, false, cond}
use Prim.Native.Nat.{ℕ, zero, suc, ◌+◌, ◌*◌, ◌≤◌, ◌<◌, min}
use native.Mathlib.Omega.{arith}
use borrow.Author.Tests.{lt-ltb, le-ltb}
use lib.Dec.{ltb, ltb→lt, nltb→le, eqb}
use lib.ListN.{length, set}
use Rattle.lines.specs.Square.{cell}
use Rattle.lines.proofs.Tests.{cond_ind}
use Rattle.lines.specs.Put.{put}
use Rattle.lines.proofs.Puts.{put_at}
use Rattle.steps.specs.Going.{Ends, Matching, Shows}
use Rattle.steps.specs.Steps.{star_in_column, prime_in_row, path, flip}
use Rattle.steps.proofs.Flip.{on_path, starred, PathWalk, walk_on, earlier, star_next}
use Rattle.steps.proofs.Marks.{mark_star, mark_prime, show_starred, show_unstarred, find_row, find_prime}

-- ---- the path by what the searches find

module _ (n : ℕ) (marks : List ℕ) where
  module _ (k i j : ℕ) where
    -- its column has no star, or has one
    pub path_last : n ≤ star_in_column n marks j → path n marks (suc k) i j ≡ (i, j) ∷ []
    unfolding path
    path_last h = rw (le-ltb (star_in_column n marks j) n h)

    pub path_more : star_in_column n marks j < n
        → path n marks (suc k) i j ≡ (i, j) ∷ (star_in_column n marks j, j) ∷ path n marks k (star_in_column n marks j) (prime_in_row n marks (star_in_column n marks j))
    unfolding path
    path_more h = rw (lt-ltb (star_in_column n marks j) n h)

-- every place is in the square
abbrev pub Inside : ℕ → List (ℕ × ℕ) → Type 0
Inside n [] = Unit
Inside n (p ∷ ps) = (p.0 < n) × (p.1 < n) × Inside n ps

pub path_inside : (n : ℕ) (marks : List ℕ) (k i j : ℕ) → Ends n marks k i j → Inside n (path n marks k i j)
unfolding path
path_inside n marks zero i j e = absurd e
path_inside n marks (suc k) i j e = (
  e.0,
  e.1,
  cond_ind (Inside n) (ltb (star_in_column n marks j) n) _ _
      (λ t. let h = ltb→lt (star_in_column n marks j) n t in (h, e.1, path_inside n marks k _ _ (e.2 h)))
      (λ t. tt),
)

-- ---- the path by the stars and primes that the marks show

-- The marks as they are when step 5 begins. Each prime has the time at which it was made, and the star in its column is in a row that was primed earlier.
module _ {n : ℕ} {star₀ prime : ℕ → ℕ} {marks₀ : List ℕ} (shown : Shows n star₀ prime marks₀) (time row₀ : ℕ → ℕ) (matching : Matching n star₀ row₀)
    (chain : (i : ℕ) → i < n → prime i < n → row₀ (prime i) < n → (prime (row₀ (prime i)) < n) × (time (row₀ (prime i)) < time i)) where
  found_row : (r : ℕ) → prime r < n → star_in_column n marks₀ (prime r) ≡ min (row₀ (prime r)) n
  found_row r hp = find_row shown row₀ matching (prime r) hp

  -- a row's star is no prime
  pub star_off : (o : ℕ) → o < n → prime o < n → star₀ o ≢ prime o
  star_off o ho hp e =
      let b : row₀ (prime o) ≡ o = ap row₀ (sym e) ∙ matching.there o ho (omega arith) (omega arith) in
      omega (arith, (chain o ho hp (rw b ho)).1, ap time b)

  found_prime : (o : ℕ) → o < n → prime o < n → prime_in_row n marks₀ o ≡ prime o
  found_prime o ho hp = find_prime shown o (star_off o ho) ∙ (omega arith)

  -- where the path comes to a star, its row has a prime
  pub prime_there : (r : ℕ) → r < n → prime r < n → star_in_column n marks₀ (prime r) < n → prime_in_row n marks₀ (star_in_column n marks₀ (prime r)) < n
  prime_there r hr hp h =
      let e : star_in_column n marks₀ (prime r) ≡ row₀ (prime r) = found_row r hp ∙ (omega (arith, found_row r hp)) in
      let p = chain r hr hp (omega arith) in
      rw (e, found_prime (row₀ (prime r)) (omega arith) p.0) p.0

  -- the rest of the path from row r, by the functions
  path_on : (k r : ℕ) → r < n → prime r < n → row₀ (prime r) < n
      → path n marks₀ (suc k) r (prime r) ≡ (r, prime r) ∷ (row₀ (prime r), prime r) ∷ path n marks₀ k (row₀ (prime r)) (prime (row₀ (prime r)))
  path_on k r hr hp h =
      let o : star_in_column n marks₀ (prime r) ≡ row₀ (prime r) = found_row r hp ∙ (omega arith) in
      rw (o, found_prime (row₀ (prime r)) h (chain r hr hp h).0) at (path_more n marks₀ k r (prime r) (rw o h))

  path_end : (k r : ℕ) → prime r < n → n ≤ row₀ (prime r) → path n marks₀ (suc k) r (prime r) ≡ (r, prime r) ∷ []
  path_end k r hp h = path_last n marks₀ k r (prime r) (omega (arith, found_row r hp))

  -- the times fall along the path
  pub path_ends : (k r : ℕ) → r < n → prime r < n → time r < k → Ends n marks₀ k r (prime r)
  path_ends zero r hr hp l = omega arith
  path_ends (suc k) r hr hp l = (
    hr,
    hp,
    λ h.
        let o : star_in_column n marks₀ (prime r) ≡ row₀ (prime r) = found_row r hp ∙ (omega (arith, found_row r hp)) in
        let q = chain r hr hp (omega arith) in
        rw (o, found_prime (row₀ (prime r)) (omega arith) q.0) (path_ends k (row₀ (prime r)) (omega arith) q.0 (omega (arith, q.1))),
  )

  -- flipping the places is moving the rows to their primes
  pub show_flip : (k : ℕ) (star row : ℕ → ℕ) (r : ℕ) (marks : List ℕ) → time r < k → PathWalk n prime time row₀ chain star row r → Shows n (put star r n) prime marks
      → Shows n (starred prime star (on_path prime n row₀ k r)) prime (flip n marks (path n marks₀ k r (prime r)))
  unfolding on_path starred flip
  show_flip zero star row r marks l w s = absurd (omega arith)
  show_flip (suc k) star row r marks l w s =
      go (ltb (row₀ c) n) refl (λ h. show_flip k star' _ (row₀ c) (marks₂ h) (omega (arith, (earlier n prime time row₀ chain w h).1)) (walk_on n prime time row₀ chain w h) (shows₂ h))
    where
      c : ℕ
      c = prime r

      star' : ℕ → ℕ
      star' = put star r c

      marks₁ : List ℕ
      marks₁ = set marks (r * n + c) (cond (eqb (cell 0 n marks r c) 1) 0 1)

      shows₁ : Shows n star' prime marks₁
      shows₁ =
          let e : cell 0 n marks r c ≡ 2 = s.marked r c w.primed ∙ mark_prime (put star r n) prime r c (λ q. omega (arith, put_at star r n r refl, w.primed)) refl in
          rw e (show_starred n star prime marks r c w.below w.primed s)

      marks₂ : row₀ c < n → List ℕ
      marks₂ h = set marks₁ (row₀ c * n + c) (cond (eqb (cell 0 n marks₁ (row₀ c) c) 1) 0 1)

      shows₂ : (h : row₀ c < n) → Shows n (put star' (row₀ c) n) prime (marks₂ h)
      shows₂ h =
          let at : star' (row₀ c) ≡ c = star_next n prime time row₀ chain w h in
          let e : cell 0 n marks₁ (row₀ c) c ≡ 1 = shows₁.marked (row₀ c) c w.primed ∙ mark_star star' prime (row₀ c) c at in
          let off : prime (row₀ c) ≢ c = λ q. omega (arith, (chain (row₀ c) h (earlier n prime time row₀ chain w h).0 (rw q h)).1, ap (λ x. time (row₀ x)) q) in
          rw e (show_unstarred n star' prime marks₁ (row₀ c) c h w.primed at off shows₁)

      go : (x : Bool) → ltb (row₀ c) n ≡ x
          → ((h : row₀ c < n) → Shows n (starred prime star' (on_path prime n row₀ k (row₀ c))) prime (flip n (marks₂ h) (path n marks₀ k (row₀ c) (prime (row₀ c)))))
          → Shows n (starred prime star' (cond x (on_path prime n row₀ k (row₀ c)) [])) prime (flip n marks (path n marks₀ (suc k) r c))
      go true e rec = let h : row₀ c < n = ltb→lt _ _ (rw e tt) in rw (path_on k r w.below w.primed h) (rec h)
      go false e rec = rw (path_end k r w.primed (nltb→le _ _ (rw e tt))) shows₁

  -- the path has at most one place more than twice its first row's time
  pub path_length : (k r : ℕ) → r < n → prime r < n → length (path n marks₀ k r (prime r)) ≤ 2 * time r + 1
  path_length zero r hr hp = unfold path in omega arith
  path_length (suc k) r hr hp = go (ltb (row₀ (prime r)) n) refl (λ h. path_length k (row₀ (prime r)) h (chain r hr hp h).0)
    where
      go : (x : Bool) → ltb (row₀ (prime r)) n ≡ x → ((h : row₀ (prime r) < n) → length (path n marks₀ k (row₀ (prime r)) (prime (row₀ (prime r)))) ≤ 2 * time (row₀ (prime r)) + 1)
          → length (path n marks₀ (suc k) r (prime r)) ≤ 2 * time r + 1
      go true e rec = let h : row₀ (prime r) < n = ltb→lt _ _ (rw e tt) in rw (path_on k r hr hp h) (omega (arith, rec h, (chain r hr hp h).1))
      go false e rec = rw (path_end k r hp (nltb→le _ _ (rw e tt))) (omega arith)
