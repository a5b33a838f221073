-- A function with one value changed.
use Rattle.std.proofs.Math.Logic.{ite}
use Rattle.std.specs.Prelude.{ℕ}
use Rattle.std.proofs.Math.Decide.{ℕ_discrete}

-- f with the value x at v
unfoldable pub put {ℓ} : {A : Type ℓ} → (ℕ → A) → ℕ → A → ℕ → A
put f v x j = ite (ℕ_discrete j v) x (f j)
