-- `read` meets its contract: what one more read gives stands behind what was read before.
use Rattle.std.proofs.Common.{◌≡◌, ℕ, ◌+◌, ◌≤◌, List, ◌++◌, length, take, sym, ap, ◌∙◌, rules, length-take-le}
use lib.Seq.{take-append-add, take-append-le}
use Rattle.std.proofs.KnownBytes.{Consumes-trans}
use Rattle.input.proofs.read.Goals as goal

-- n bytes more than the a that were there
filled : (a n : ℕ) (room part rest : List ℕ) → a ≤ length room → n ≤ length part → take (a + n) (take a room ++ (part ++ rest)) ≡ take a room ++ take n part
filled a n room part rest h l =
    ap (λ k. take (k + n) (take a room ++ (part ++ rest))) (sym (length-take-le a room h))
    ∙ take-append-add (take a room) (part ++ rest) n
    ∙ ap (λ more. take a room ++ more) (take-append-le n part rest l)

pub loop-count-preserved : goal.loop-count-preserved
loop-count-preserved g c =
    let before = c.loop-count.invariant in
    let more = c.in_ok-more.ensures in
    (search rules, search rules, rw (filled _ _ _ _ _ before.0 more.bound.0) (Consumes-trans _ _ _ _ _ before.2 more.bytes.0))
