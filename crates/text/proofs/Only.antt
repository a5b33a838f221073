-- Theorems: two results that meet the promise of a `put` function are equal, and so is every byte lent.
use mathlib.Core.Path.{◌≡◌, sym, ◌∙◌}
use mathlib.Core.List.{List}
use Prim.Native.Nat.{ℕ}
use lib.IntN.{ℤ}
use Rattle.text.specs.Text.{put}
use Rattle.text.specs.Puts.{Puts}
use Rattle.text.specs.declared.Text.{Text}
use Rattle.text.specs.Numbers.{decimal, signed, right, refusal}

module _ (out : List ℕ) (used : ℕ) where
  -- a result is how much is used afterwards, with the whole buffer; each piece has one, so each function's law is that of its piece
  abbrev pub Only : List ℕ → Type 0
  Only piece = (r s : ℕ × List ℕ) → r ≡ put out used piece → s ≡ put out used piece → r ≡ s

  pub only_put : (piece : List ℕ) → Only piece
  only_put piece r s e f = e ∙ sym f

  pub only_put_decimal : (n : ℕ) → Only (decimal n)
  only_put_decimal n = only_put (decimal n)

  pub only_put_signed : (z : ℤ) → Only (signed z)
  only_put_signed z = only_put (signed z)

  pub only_put_right : (width : ℕ) (z : ℤ) → Only (right width (signed z))
  only_put_right width z = only_put (right width (signed z))

  pub only_put_decimal_right : (width n : ℕ) → Only (right width (decimal n))
  only_put_decimal_right width n = only_put (right width (decimal n))

  pub only_put_refusal : (number place : ℕ) → Only (refusal number place)
  only_put_refusal number place = only_put (refusal number place)

-- the same of two texts that `put` functions left of one text
pub only_puts : {before r s : Text} {piece : List ℕ} → Puts before piece r → Puts before piece s → ◌≡◌ {A = ℕ × List ℕ} (r.used, r.room.now) (s.used, s.room.now)
only_puts e f = e.puts ∙ sym f.puts
