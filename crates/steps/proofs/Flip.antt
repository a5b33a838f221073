-- Step 5 on the stars. The path is walked one row at a time: a row on the path takes its prime's column, and leaves the row whose star stood there without
-- a column. So all along every row but one has its star, and that one is next.
use mathlib.Core.Path.{◌≡◌, refl, sym, ap, ◌∙◌}
use mathlib.Core.Logic.{◌≢◌}
use mathlib.Core.List.{List, [], ◌∷◌}
use mathlib.Core.Bool.{Bool, true, false, cond}
use Prim.Native.Nat.{ℕ, zero, suc, ◌+◌, ◌≤◌, ◌<◌}
use native.Mathlib.Omega.{arith}
use lib.Dec.{ltb, ltb→lt, nltb→le}
use Rattle.lines.specs.Count.{bit, count}
use Rattle.lines.specs.Put.{put}
use Rattle.lines.proofs.Puts.{put_off, put_case}
use Rattle.lines.proofs.Counts.{bit_lt}
use Rattle.steps.specs.Going.{Apart, Matching, has_star}
use Rattle.steps.proofs.Matching.{moved, none_apart, starless, count_moved}

module _ (prime : ℕ → ℕ) where
  -- the rows on the on-path from row r: r, then the row whose star stands in the column of r's prime, and so on
  unfoldable pub on_path : ℕ → (ℕ → ℕ) → ℕ → ℕ → List ℕ
  on_path n row zero r = []
  on_path n row (suc k) r = r ∷ cond (ltb (row (prime r)) n) (on_path n row k (row (prime r))) []

  -- the stars after these rows have moved to their primes
  unfoldable pub starred : (ℕ → ℕ) → List ℕ → ℕ → ℕ
  starred star [] = star
  starred star (r ∷ rs) = starred (put star r (prime r)) rs

  unfoldable pub rowed : (ℕ → ℕ) → List ℕ → ℕ → ℕ
  rowed row [] = row
  rowed row (r ∷ rs) = rowed (put row (prime r) r) rs

-- what the on-path leaves: the stars of a matching, one more of them if r had none, each at a place where a star or a prime was, and no column and no row
-- without its star
pub record Flipped (n : ℕ) (Q : ℕ → ℕ → Type 0) (star row : ℕ → ℕ) (r : ℕ) (star' row' : ℕ → ℕ) : Type 0 where
  pub matching : Matching n star' row'
  pub more : count (has_star n star') n + bit (has_star n star r) ≡ count (has_star n star) n + 1
  pub holds : (i : ℕ) → i < n → star' i < n → Q i (star' i)
  pub stays : (j : ℕ) → row j < n → row' j < n
  pub keeps : (i : ℕ) → star i < n → star' i < n

-- Each prime has the time at which it was made, and the star in its column is in a row that was primed earlier.
module _ (n : ℕ) (prime time row₀ : ℕ → ℕ)
    (chain : (i : ℕ) → i < n → prime i < n → row₀ (prime i) < n → (prime (row₀ (prime i)) < n) × (time (row₀ (prime i)) < time i)) where
  -- the walk has come to row r: r is set apart, and the columns that are still to come have the stars that they began with
  pub record PathWalk (star row : ℕ → ℕ) (r : ℕ) : Type 0 where
    pub below : r < n
    pub primed : prime r < n
    pub apart : Apart n star row r
    pub same : (i : ℕ) → i < n → prime i < n → time i ≤ time r → row (prime i) ≡ row₀ (prime i)

  pub walk_start : (star : ℕ → ℕ) (r : ℕ) → r < n → prime r < n → n ≤ star r → Matching n star row₀ → PathWalk star row₀ r
  walk_start star r hr hp none m = record { below = hr; primed = hp; apart = starless n star row₀ r none m; same = λ i hi pi le. refl }

  module _ {star row : ℕ → ℕ} {r : ℕ} (w : PathWalk star row r) where
    next : Apart n (put star r (prime r)) (put row (prime r) r) (row₀ (prime r))
    next = rw (w.same r w.below w.primed (omega arith)) at (moved n star row r (prime r) w.below w.primed w.apart)

    pub walk_end : n ≤ row₀ (prime r) → Matching n (put star r (prime r)) (put row (prime r) r)
    walk_end h = none_apart n _ _ (row₀ (prime r)) h next

    module _ (h : row₀ (prime r) < n) where
      pub earlier : (prime (row₀ (prime r)) < n) × (time (row₀ (prime r)) < time r)
      earlier = chain r w.below w.primed h

      pub walk_on : PathWalk (put star r (prime r)) (put row (prime r) r) (row₀ (prime r))
      walk_on = record {
        below = h;
        primed = earlier.0;
        apart = next;
        same = λ i hi pi le.
            let ne : prime i ≢ prime r = λ e. omega (arith, (chain i hi pi (rw e h)).1, ap (λ x. time (row₀ x)) e) in
            put_off row (prime r) r (prime i) ne ∙ w.same i hi pi (omega (arith, earlier.1));
      }

      -- the row that is next still has the star that stands in this prime's column
      pub star_next : put star r (prime r) (row₀ (prime r)) ≡ prime r
      star_next =
          let e : row (prime r) ≡ row₀ (prime r) = w.same r w.below w.primed (omega arith) in
          let b = w.apart.back (prime r) w.primed (omega arith) in
          put_off star r (prime r) (row₀ (prime r)) (λ q. omega (arith, ap time q, earlier.1)) ∙ ap star (sym e) ∙ b.1

  module _ (Q : ℕ → ℕ → Type 0) (good : (i : ℕ) → i < n → prime i < n → Q i (prime i)) where
    flip_from : (k : ℕ) (star row : ℕ → ℕ) (r : ℕ) → time r < k → PathWalk star row r → ((i : ℕ) → i < n → star i < n → Q i (star i))
        → Flipped n Q star row r (starred prime star (on_path prime n row₀ k r)) (rowed prime row (on_path prime n row₀ k r))
    unfolding on_path starred rowed
    flip_from zero star row r l w q = absurd (omega arith)
    flip_from (suc k) star row r l w q =
        go (ltb (row₀ (prime r)) n) refl (λ h. flip_from k star' row' (row₀ (prime r)) (omega (arith, (earlier w h).1)) (walk_on w h) q')
      where
        star' : ℕ → ℕ
        star' = put star r (prime r)

        row' : ℕ → ℕ
        row' = put row (prime r) r

        rs : List ℕ
        rs = on_path prime n row₀ k (row₀ (prime r))

        q' : (i : ℕ) → i < n → star' i < n → Q i (star' i)
        q' i hi = put_case (λ x. x < n → Q i x) star r (prime r) i (λ e s. rw (ap prime (sym e)) (good i hi (rw e w.primed))) (λ ne s. q i hi s)

        stay : (j : ℕ) → row j < n → row' j < n
        stay j h = put_case (λ x. x < n) row (prime r) r j (λ e. w.below) (λ ne. h)

        keep : (i : ℕ) → star i < n → star' i < n
        keep i h = put_case (λ x. x < n) star r (prime r) i (λ e. w.primed) (λ ne. h)

        go : (x : Bool) → ltb (row₀ (prime r)) n ≡ x → (row₀ (prime r) < n → Flipped n Q star' row' (row₀ (prime r)) (starred prime star' rs) (rowed prime row' rs))
            → Flipped n Q star row r (starred prime star' (cond x rs [])) (rowed prime row' (cond x rs []))
        go true e rec =
            let h : row₀ (prime r) < n = ltb→lt _ _ (rw e tt) in
            let d = rec h in
            record {
              matching = d.matching;
              more =
                  omega (
                    arith,
                    d.more,
                    count_moved n star r (prime r) w.below w.primed,
                    bit_lt (star' (row₀ (prime r))) n (rw (star_next w h) w.primed),
                  );
              holds = d.holds;
              stays = λ j h. d.stays j (stay j h);
              keeps = λ i h. d.keeps i (keep i h);
            }
        go false e rec = record {
          matching = walk_end w (nltb→le _ _ (rw e tt));
          more = count_moved n star r (prime r) w.below w.primed;
          holds = q';
          stays = stay;
          keeps = keep;
        }

    -- The stars and the on-path of step 5: row r has no star, and its prime was the last to be made.
    pub flip : (k : ℕ) (star : ℕ → ℕ) (r : ℕ) → r < n → prime r < n → time r < k → n ≤ star r → Matching n star row₀
        → ((i : ℕ) → i < n → star i < n → Q i (star i))
        → Flipped n Q star row₀ r (starred prime star (on_path prime n row₀ k r)) (rowed prime row₀ (on_path prime n row₀ k r))
    flip k star r hr hp l none m q = flip_from k star row₀ r l (walk_start star r hr hp none m) q
