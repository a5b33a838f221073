-- What putting text into a buffer keeps and adds up to: two pieces after one another are their text put at once.
use mathlib.Core.Path.{◌≡◌, refl, sym, ap, ◌∙◌}
use mathlib.Core.Logic.{dite}
use mathlib.Core.List.{List, [], ◌∷◌, ◌++◌, append-nil, append_assoc}
use Prim.Native.Nat.{ℕ, zero, suc, ◌+◌, ◌-◌, ◌≤◌, min}
use native.Mathlib.Decide.{dec_le}
use native.Mathlib.Omega.{arith}
use lib.ListN.{length, take, drop, length-append, length-take, length-drop, take-append-drop}
use lib.Seq.{take_all, take_at, take-append-add, length-take-le, drop-append-add, drop-drop}
use borrow.Rule.Slice.PartMut.{put_mid, Post-is}
use Rattle.text.specs.Text.{front, put}
use Rattle.text.specs.Puts.{Goes, Puts}
use Rattle.text.specs.declared.Text.{Text}

module _ (out : List ℕ) (used : ℕ) (piece : List ℕ) (inside : used ≤ length out) (n : ℕ) (fits : n ≡ min (length piece) (length out - used)) where
  fitting : take (length out) (take used out ++ piece) ≡ take used out ++ take n piece
  fitting =
      let l : length out ≡ length (take used out) + (length out - used) = omega (arith, length-take-le used out inside) in
      ap (λ k. take k (take used out ++ piece)) l ∙ take-append-add (take used out) piece (length out - used) ∙ ap (λ t. take used out ++ t) room
    where
      room : take (length out - used) piece ≡ take n piece
      room =
          dite (dec_le (length piece) (length out - used))
          (λ s. take_all (length out - used) piece s ∙ sym (take_all n piece (omega arith)))
          (λ s. let q : length out - used ≡ n = omega arith in rw q)

  -- as much of the piece as fits, behind the used part
  pub put_behind : (ys : List ℕ) → ys ≡ take n piece → (used + n, put_mid used (used + n - used) out ys) ≡ put out used piece
  unfolding put front
  put_behind ys e =
      let l : length (take used out ++ take n piece) ≡ used + n = length-append (take used out) _ ∙ omega (arith, length-take-le used out inside, length-take n piece) in
      rw (fitting, l, e, Post-is used (used + n) out (omega arith), append_assoc (take used out) (take n piece) (drop (used + n) out)) refl

-- ---- a used part beyond the buffer

-- is all of the buffer
pub put_at : (out : List ℕ) (used : ℕ) (piece : List ℕ) → put out used piece ≡ put out (min used (length out)) piece
unfolding put
put_at out used piece =
    ap (λ text. front out (take (length out) (text ++ piece)))
    (dite (dec_le used (length out))
    (λ s. let q : used ≡ min used (length out) = omega arith in ap (λ k. take k out) q)
    (λ s. take_all used out (omega arith) ∙ sym (take_all (min used (length out)) out (omega arith))))

-- so a piece that is put behind so much of a lent room stands there, however much that is
pub put_behind_at : {out piece : List ℕ} {name used : ℕ} {a b : Text} → Goes out name used a → Puts a piece b → (b.used, b.room.now) ≡ put out used piece
put_behind_at {out} {piece} {used = used} at puts = puts.puts ∙ rw (at.same_bytes, at.used_or_all) (sym (put_at out used piece))

-- ---- piece after piece

-- as much of a text as fits, and a piece behind it
take_over : (n : ℕ) (xs ys : List ℕ) → take n (take n xs ++ ys) ≡ take n (xs ++ ys)
take_over zero xs ys = refl
take_over (suc n) [] ys = refl
take_over (suc n) (x ∷ xs) ys = ap (λ l. x ∷ l) (take_over n xs ys)

module _ (out : List ℕ) (text : List ℕ) (fits : length text ≤ length out) where
  front_long : length (front out text).1 ≡ length out
  unfolding front
  front_long = length-append text _ ∙ rw (length-drop (length text) out) (omega arith)

  front_taken : take (front out text).0 (front out text).1 ≡ text
  unfolding front
  front_taken = take_at text _ (length text) refl

  -- a longer text in the same place
  front_over : (longer : List ℕ) → length text ≤ length longer → front (front out text).1 longer ≡ front out longer
  unfolding front
  front_over longer h =
      let q : length longer ≡ length text + (length longer - length text) = omega arith in
      ap (λ rest. (length longer, longer ++ rest))
      (ap (λ k. drop k (text ++ drop (length text) out)) q
      ∙ drop-append-add text (drop (length text) out) (length longer - length text)
      ∙ drop-drop (length longer - length text) (length text) out
      ∙ ap (λ k. drop k out) (sym q))

-- two pieces after one another are put as one
pub put_then : (out : List ℕ) (used : ℕ) (a b : List ℕ) → put (put out used a).1 (put out used a).0 b ≡ put out used (a ++ b)
unfolding put
put_then out used a b =
    let text = take (length out) (take used out ++ a) in
    let fits : length text ≤ length out = omega (arith, length-take (length out) (take used out ++ a)) in
    let longer = take (length out) (take used out ++ (a ++ b)) in
    let h : length text ≤ length longer =
    simp (length-take, length-append) (omega arith) in
    rw (front_long out text fits, front_taken out text fits, take_over (length out) (take used out ++ a) b, append_assoc (take used out) a b)
    (front_over out text fits longer h)

infixl 30 ◌▸◌
-- a piece, and then another
pub ◌▸◌ : {a b c : Text} {p q : List ℕ} → Puts a p b → Puts b q c → Puts a (p ++ q) c
◌▸◌ {a} {p = p} {q = q} first second = record {
  same_room = second.same_room ∙ first.same_room;
  puts = second.puts ∙ ap (λ r. put r.1 r.0 q) first.puts ∙ put_then a.room.now a.used p q;
}

-- nothing
pub puts_none : (t : Text) → Puts t [] t
unfolding put front
puts_none t =
    let inside = t.inside in
    let long = length-take-le t.used t.room.now inside in
    record {
      same_room = refl;
      puts = rw (append-nil (take t.used t.room.now), take_all (length t.room.now) (take t.used t.room.now) (omega (arith, long, inside)), long, take-append-drop t.used t.room.now);
    }

-- how much is used, and the buffer, after a text was put behind a used part
pub record Holds (before : List ℕ) (used : ℕ) (text : List ℕ) (r : ℕ) (out : List ℕ) : Type 0 where
  pub held : (r, out) ≡ put before used text

module _ {before : List ℕ} {used : ℕ} {text : List ℕ} {r : ℕ} {out : List ℕ} (h : Holds before used text r out) where
  -- the buffer keeps its length, and what is used lies in it
  holds_long : length out ≡ length before
  unfolding put
  holds_long = ap (λ p. length p.1) h.held ∙ front_long before _ (omega (arith, length-take (length before) (take used before ++ text)))

  -- so the used part can be lent
  pub holds_fits : r ≤ length out
  unfolding put front
  holds_fits = rw (ap (λ p. p.0) h.held, length-take (length before) (take used before ++ text), holds_long) (omega arith)

  pub holds_prefix : r ≡ length (take r out)
  holds_prefix = sym (length-take-le r out holds_fits)

-- a text that fits is there, whole
pub holds_whole : {before text : List ℕ} {r : ℕ} {out : List ℕ} → Holds before 0 text r out → length text ≤ length before → take r out ≡ text
unfolding put
holds_whole {before} {text} h l =
    ap (λ p. take p.0 p.1) h.held
    ∙ front_taken before (take (length before) text) (omega (arith, length-take (length before) text))
    ∙ take_all (length before) text l
