-- Theorem: two answers that meet the promise are equal, of the finder and of the body.
use mathlib.Core.Path.{◌≡◌, sym, ◌∙◌}
use mathlib.Core.List.{List}
use Prim.Native.Nat.{ℕ}
use Rattle.std.specs.Prelude.{Result}
use Rattle.records.specs.declared.Missing.{Missing}
use Rattle.records.specs.Records.{body, Finds}

pub only_found : {file : List ℕ} {at : ℕ} {r s : Result ℕ Missing} → Finds file at r → Finds file at s → r ≡ s
only_found x y = x.exact ∙ sym y.exact

pub only_body : (file : List ℕ) (at : ℕ) {r s : List ℕ} → r ≡ body file at → s ≡ body file at → r ≡ s
only_body file at e f = e ∙ sym f
