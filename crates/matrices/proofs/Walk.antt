-- The path recorded and flipped: what the loops of path.rt keep from turn to turn, and what a path's places are.
use mathlib.Core.Path.{◌≡◌, refl, sym, ap}
use mathlib.Core.Bool.{cond}
use mathlib.Core.List.{List, [], ◌∷◌, ◌++◌, append_assoc}
use Prim.Native.Nat.{ℕ, zero, suc, ◌+◌, ◌*◌, ◌≤◌, ◌<◌}
use native.Mathlib.Omega.{arith}
use lib.Dec.{eqb}
use lib.ListN.{length, get_or, set, take, length-append}
use Rattle.std.specs.Prelude.{Some, None}
use Rattle.std.proofs.lemmas.List.{take_more}
use Rattle.lines.specs.Square.{cell}
use Rattle.lines.specs.First.{found}
use Rattle.lines.proofs.Firsts.{some_found, none_found}
use Rattle.steps.specs.Steps.{star_in_column, prime_in_row, path, flip}
use Rattle.steps.specs.Going.{Ends}
use Rattle.steps.proofs.Path.{path_last, path_more, Inside, path_inside}
use Rattle.ground.specs.Square.{Square}
use Rattle.matrices.specs.Path.{Walks, Flips}

-- ---- recording

-- before each turn: the places recorded, and the path from (i, j) on, are the path
pub record Walked (n : ℕ) (marks : List ℕ) (row column : ℕ) (done : List (ℕ × ℕ)) (i j : ℕ) : Type 0 where
  pub small : n ≤ 64
  pub left : ℕ
  pub goes : Ends n marks (suc left) i j
  pub room : length done + 2 * suc left ≤ 2 * n
  pub rest : done ++ path n marks (suc left) i j ≡ path n marks n row column

-- no path ends within no row
some_left : (n : ℕ) (marks : List ℕ) (k i j : ℕ) → Ends n marks k i j → (m : ℕ) × (k ≡ suc m) × Ends n marks (suc m) i j
some_left n marks zero i j e = absurd e
some_left n marks (suc k) i j e = (k, refl, e)

pub walked_none : (n : ℕ) (marks : List ℕ) (row column : ℕ) → Walks n marks row column → Walked n marks row column [] row column
walked_none n marks row column p =
    let s = some_left n marks n row column p.ends in
    record { small = p.most; left = s.0; goes = s.2; room = omega (arith, s.1); rest = ap (λ k. path n marks k row column) (sym s.1) }

-- a turn records (i, j), and finds that its column has no star, or that it is in row o
module _ {n : ℕ} {marks : List ℕ} {row column : ℕ} {done : List (ℕ × ℕ)} {i j : ℕ} (w : Walked n marks row column done i j) where
  pub walked_room : length done < 127
  walked_room = omega (arith, w.small, w.room)

  pub walked_last : None ≡ found n (star_in_column n marks j) → done ++ (i, j) ∷ [] ≡ path n marks n row column
  walked_last e = rw (← path_last n marks w.left i j (none_found n _ (sym e))) w.rest

  -- a turn has room for a prime and a star, and the last needs no star
  pub walked_few : length (done ++ (i, j) ∷ []) < 2 * n
  walked_few = simp length-append (omega (arith, w.room))

  module _ {o : ℕ} (e : Some o ≡ found n (star_in_column n marks j)) where
    star : star_in_column n marks j ≡ o
    star = (some_found n _ o (sym e)).0

    pub walked_star : o < n
    walked_star = (some_found n _ o (sym e)).1

    next : (m : ℕ) × (w.left ≡ suc m) × Ends n marks (suc m) o (prime_in_row n marks o)
    next = some_left n marks w.left o (prime_in_row n marks o) (rw star at (w.goes.2 (omega (arith, star, walked_star))))

    -- there is room for the star, and for the prime in its row
    pub walked_on : length done + 2 < 127
    walked_on = omega (arith, w.small, w.room, next.1)

    pub walked_prime : None ≡ found n (prime_in_row n marks o) → ⊥
    walked_prime f = omega (arith, none_found n _ (sym f), next.2.1)

    on : path n marks (suc w.left) i j ≡ (i, j) ∷ (o, j) ∷ path n marks (suc next.0) o (prime_in_row n marks o)
    on = rw (← next.1, ← star) (path_more n marks w.left i j (omega (arith, star, walked_star)))

    pub walked_more : {p : ℕ} → Some p ≡ found n (prime_in_row n marks o) → Walked n marks row column ((done ++ (i, j) ∷ []) ++ (o, j) ∷ []) o p
    walked_more f = rw (← (some_found n _ _ (sym f)).0) (record {
      small = w.small;
      left = next.0;
      goes = next.2;
      room = simp length-append (omega (arith, w.room, next.1));
      rest = simp append_assoc (rw on at w.rest);
    })

-- ---- flipping

flip_last : (n : ℕ) (ps : List (ℕ × ℕ)) (marks : List ℕ) (i j : ℕ)
    → flip n marks (ps ++ ((i, j) ∷ [])) ≡ set (flip n marks ps) (i * n + j) (cond (eqb (cell 0 n (flip n marks ps) i j) 1) 0 1)
unfolding flip
flip_last n [] marks i j = refl
flip_last n (p ∷ ps) marks i j = flip_last n ps _ i j

-- one place more
pub flipped_more : (n : ℕ) (places : List (ℕ × ℕ)) (marks₀ marks : List ℕ) (k : ℕ) (p : ℕ × ℕ) → p ≡ get_or places k (0, 0) → k < length places → marks ≡ flip n marks₀ (take k places)
    → set marks (p.0 * n + p.1) (cond (eqb (cell 0 n marks p.0 p.1) 1) 0 1) ≡ flip n marks₀ (take (k + 1) places)
flipped_more n places marks₀ marks k p q h e = rw (q, e, take_more places k (0, 0) h) (sym (flip_last n (take k places) marks₀ _ _))

-- ---- a path's places

at_inside : (n : ℕ) (ps : List (ℕ × ℕ)) → Inside n ps → (x : ℕ) → x < length ps → ((get_or ps x (0, 0)).0 < n) × ((get_or ps x (0, 0)).1 < n)
at_inside n [] h x l = absurd (omega arith)
at_inside n (p ∷ ps) h zero l = (h.0, h.1)
at_inside n (p ∷ ps) h (suc x) l = at_inside n ps h.2 x (omega arith)

-- what `find_path` gives can be flipped
pub path_flips : (n : ℕ) (marks : List ℕ) (i j : ℕ) (places : List (ℕ × ℕ)) → Square n marks → Ends n marks n i j → places ≡ path n marks n i j → Flips n marks places
path_flips n marks i j places s e f = record { marks_square = s; inside = at_inside n places (rw f (path_inside n marks n i j e)) }
