-- Law D, step 5: the arrays after the path is flipped are what the searches find in the flipped marks.
use mathlib.Core.Path.{◌≡◌, refl, sym, ap, ◌∙◌}
use mathlib.Core.Logic.{dite}
use mathlib.Core.Bool.{Bool, true, false}
use mathlib.Core.List.{List}
use Prim.Native.Nat.{ℕ, zero, suc, ◌≤◌, ◌<◌, min}
use native.Mathlib.Decide.{ℕ_discrete}
use native.Mathlib.Omega.{arith}
use borrow.Author.Tests.{lt-ltb, le-ltb, ltb-true, ltb-false}
use lib.Dec.{ltb}
use lib.IntN.{ℤ}
use lib.ListN.{length, get_or, set, length-set}
use Rattle.lines.specs.Square.{table}
use Rattle.lines.specs.Put.{put}
use Rattle.lines.proofs.Puts.{put_at, put_off}
use Rattle.lines.proofs.Squares.{set_put, table_at, length_table}
use Rattle.steps.specs.Steps.{clear_primes, flip, path}
use Rattle.steps.specs.Going.{Ready}
use Rattle.steps.proofs.Marks.{find_star, find_row, find_prime}
use Rattle.steps.proofs.Path.{star_off}
use Rattle.steps.proofs.Flip.{on_path, starred, rowed, PathWalk, walk_start, walk_on, earlier}
use Rattle.steps.proofs.Search.{prime', time', chained, early, at_prime, augmented}
use Rattle.starred.specs.Flipping.{flipped, Follows}
use Rattle.quick.specs.Shown.{Lines}

-- a list holds what a function says, n where that is none
abbrev Told : ℕ → List ℕ → (ℕ → ℕ) → Type 0
Told n xs f = (a : ℕ) → a < n → get_or xs a 0 ≡ min (f a) n

told_set : (n : ℕ) (xs : List ℕ) (f : ℕ → ℕ) (i v : ℕ) → i < n → n ≤ length xs → v < n → Told n xs f → Told n (set xs i v) (put f i v)
told_set n xs f i v hi long hv t a ha =
    set_put 0 xs i v a (omega arith) ∙ dite (ℕ_discrete a i)
    (λ e. put_at (λ y. get_or xs y 0) i v a e ∙ (let q : v ≡ min v n = omega arith in q) ∙ ap (λ x. min x n) (sym (put_at f i v a e)))
    (λ ne. put_off (λ y. get_or xs y 0) i v a ne ∙ t a ha ∙ ap (λ x. min x n) (sym (put_off f i v a ne)))

module _ (n : ℕ) (prime time row₀ : ℕ → ℕ)
    (chain : (i : ℕ) → i < n → prime i < n → row₀ (prime i) < n → (prime (row₀ (prime i)) < n) × (time (row₀ (prime i)) < time i))
    (primes : List ℕ) (primes_told : Told n primes prime) where
  record Flips (k : ℕ) (stars owners : List ℕ) (star row : ℕ → ℕ) (r j : ℕ) : Type 0 where
    stars_told : Told n (flipped n primes k stars owners r j).0 (starred prime star (on_path prime n row₀ k r))
    owners_told : Told n (flipped n primes k stars owners r j).1 (rowed prime row (on_path prime n row₀ k r))
    stars_long : length (flipped n primes k stars owners r j).0 ≡ length stars
    owners_long : length (flipped n primes k stars owners r j).1 ≡ length owners
    follows : Follows n primes k owners r j

  flips : (k : ℕ) (star row : ℕ → ℕ) (r : ℕ) (stars owners : List ℕ) → time r < k → PathWalk n prime time row₀ chain star row r → Told n stars star → Told n owners row
      → n ≤ length stars → n ≤ length owners → Flips k stars owners star row r (prime r)
  unfolding on_path starred rowed flipped Follows
  flips zero star row r stars owners l w ts to ls lo = absurd (omega arith)
  flips (suc k) star row r stars owners l w ts to ls lo =
      go (ltb (row₀ c) n) refl (λ h. flips k (put star r c) (put row c r) (row₀ c) (set stars r c) (set owners c r) (omega (arith, (earlier n prime time row₀ chain w h).1))
      (walk_on n prime time row₀ chain w h) ts' to' (rw (length-set stars r c) ls) (rw (length-set owners c r) lo))
    where
      c : ℕ
      c = prime r

      o : ℕ
      o = get_or owners c 0

      o_is : o ≡ min (row₀ c) n
      o_is = to (prime r) w.primed ∙ ap (λ x. min x n) (w.same r w.below w.primed (omega arith))

      ts' : Told n (set stars r c) (put star r c)
      ts' = told_set n stars star r (prime r) w.below ls w.primed ts

      to' : Told n (set owners c r) (put row c r)
      to' = told_set n owners row (prime r) r w.primed lo w.below to

      go : (x : Bool) → ltb (row₀ c) n ≡ x → ((h : row₀ c < n) → Flips k (set stars r c) (set owners c r) (put star r c) (put row c r) (row₀ c) (prime (row₀ c)))
          → Flips (suc k) stars owners star row r (prime r)
      go true e rec =
          let h : row₀ c < n = ltb-true (row₀ c) n e in
          let oe : o ≡ row₀ c = o_is ∙ (let q : min (row₀ c) n ≡ row₀ c = omega arith in q) in
          let pe : get_or primes (row₀ c) 0 ≡ prime (row₀ c) = primes_told (row₀ c) h ∙ (let b = (earlier n prime time row₀ chain w h).0 in let q : min (prime (row₀ c)) n ≡ prime (row₀ c) = omega arith in q) in
          let d = rec h in
          record {
            stars_told = rw (oe, lt-ltb (row₀ c) n h, pe) d.stars_told;
            owners_told = rw (oe, lt-ltb (row₀ c) n h, pe) d.owners_told;
            stars_long = rw (oe, lt-ltb (row₀ c) n h, pe) (d.stars_long ∙ length-set stars r c);
            owners_long = rw (oe, lt-ltb (row₀ c) n h, pe) (d.owners_long ∙ length-set owners c r);
            follows = (w.below, w.primed, λ g. rw (oe, pe) d.follows);
          }
      go false e rec =
          let h : n ≤ row₀ c = ltb-false (row₀ c) n e in
          let f : ltb o n ≡ false = le-ltb o n (omega (arith, o_is)) in
          record {
            stars_told = rw (f, e) ts';
            owners_told = rw (f, e) to';
            stars_long = rw f (length-set stars r c);
            owners_long = rw f (length-set owners c r);
            follows = (w.below, w.primed, λ g. absurd (omega (arith, o_is)));
          }

-- ---- the machine at step 5

module _ {n : ℕ} {ok : ℕ → ℕ → Bool} {working : List ℤ} {marks : List ℕ} {rows columns i j : ℕ} (s : Ready n ok working marks rows columns i j)
    {star owner prime : List ℕ} (l : Lines n marks star owner prime) where
  abbrev p : ℕ → ℕ
  p = prime' n ok s

  walked : Flips n p (time' n ok s) s.row (chained n ok s) prime
      (λ a ha. l.prime_is a ha ∙ find_prime s.shows a (star_off s.shows (time' n ok s) s.row s.phase.matching (chained n ok s) a ha))
      n star owner s.star s.row i (p i)
  walked =
      flips n p (time' n ok s) s.row (chained n ok s) prime _ n s.star s.row i star owner (early n ok s)
      (walk_start n p (time' n ok s) s.row (chained n ok s) s.star i s.last.row_below (rw (at_prime n ok s) s.last.column_below) s.bare s.phase.matching)
      (λ a ha. l.star_is a ha ∙ find_star s.shows a)
      (λ b hb. l.owner_is b hb ∙ find_row s.shows s.row s.phase.matching b hb)
      l.star_long l.owner_long

  pub path_follows : Follows n prime n owner i j
  path_follows = rw (at_prime n ok s) at walked.follows

  abbrev after : List ℕ
  after = clear_primes (flip n marks (path n marks n i j))

  pub lines_flipped : {star'' owner'' prime'' : List ℕ} → (star'', owner'') ≡ flipped n prime n star owner i j → prime'' ≡ table (λ k. n) (length prime)
      → Lines n after star'' owner'' prime''
  lines_flipped {star''} {owner''} {prime''} e f =
      let a = augmented n ok s in
      let es : star'' ≡ (flipped n prime n star owner i j).0 = ap (λ x. x.0) e in
      let eo : owner'' ≡ (flipped n prime n star owner i j).1 = ap (λ x. x.1) e in
      let st = rw (at_prime n ok s, ← es) at walked.stars_told in
      let ot = rw (at_prime n ok s, ← eo) at walked.owners_told in
      let sl = rw (at_prime n ok s, ← es) at walked.stars_long in
      let ol = rw (at_prime n ok s, ← eo) at walked.owners_long in
      record {
        star_long = omega (arith, sl, l.star_long);
        owner_long = omega (arith, ol, l.owner_long);
        prime_long = rw (f, length_table (λ k. n) (length prime)) l.prime_long;
        star_is = λ b hb. st b hb ∙ sym (find_star a.shows b);
        owner_is = λ b hb. ot b hb ∙ sym (find_row a.shows a.row a.matching b hb);
        prime_is = λ b hb. rw f (table_at 0 (λ k. n) (length prime) b (omega (arith, l.prime_long)))
            ∙ sym (find_prime a.shows b (λ h. absurd (omega arith)) ∙ (let q : min n n ≡ n = omega arith in q));
      }
