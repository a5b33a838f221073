-- What is returned of an accepted call: it comes from one of the three ends, and the machine stands there.
use mathlib.Core.Path.{◌≡◌, refl, sym, ap, ◌∙◌}
use mathlib.Core.Bool.{true, true≢false}
use mathlib.Core.Option.{some, none-ne-some, map-eq-some_iff}
use Prim.Native.Nat.{ℕ}
use Rattle.steps.specs.declared.Answer.{Answer}
use Rattle.steps.specs.Lent.{Task, Buffers}
use Rattle.steps.specs.Refusal.{accepted}
use Rattle.steps.specs.Steps.{Next, Step3, Step4, Step5, Step6, Paired, NoPairing, Unfinished, End, paired, no_pairing, unfinished, end_of}
use Rattle.steps.specs.Counts.{over}
use Rattle.steps.specs.Outcome.{returned, reached, judged}

-- ---- the ends among the steps

abbrev pub at_end : End → Next
at_end paired = Paired
at_end no_pairing = NoPairing
at_end unfinished = Unfinished

pub at_end_of : (x : Next) {e : End} → end_of x ≡ some e → x ≡ at_end e
at_end_of Paired h = cc
at_end_of NoPairing h = cc
at_end_of Unfinished h = cc
at_end_of Step3 h = absurd (none-ne-some _ h)
at_end_of Step4 h = absurd (none-ne-some _ h)
at_end_of (Step5 i j) h = absurd (none-ne-some _ h)
at_end_of Step6 h = absurd (none-ne-some _ h)

pub end_there : (e : End) → end_of (at_end e) ≡ some e
end_there paired = refl
end_there no_pairing = refl
end_there unfinished = refl

pub over_there : (e : End) → over (at_end e) ≡ true
over_there paired = refl
over_there no_pairing = refl
over_there unfinished = refl

pub over_end : (x : Next) → over x ≡ true → (e : End) × (x ≡ at_end e)
over_end Paired o = (paired, refl)
over_end NoPairing o = (no_pairing, refl)
over_end Unfinished o = (unfinished, refl)
over_end Step3 o = absurd (true≢false (sym o))
over_end Step4 o = absurd (true≢false (sym o))
over_end (Step5 i j) o = absurd (true≢false (sym o))
over_end Step6 o = absurd (true≢false (sym o))

-- ---- after k steps

pub record Returned (t : Task) (before : Buffers) (k : ℕ) (o : Answer × Buffers) : Type 0 where
  pub end : End
  pub there : (reached t k).run.next ≡ at_end end
  pub value : returned t before (reached t k) end ≡ o

module _ (t : Task) (before : Buffers) (k : ℕ) where
  pub returned_is : {o : Answer × Buffers} → judged t before k accepted ≡ some o → Returned t before k o
  unfolding judged
  returned_is e =
      let x = (map-eq-some_iff (returned t before (reached t k)) (end_of (reached t k).run.next)).0 e in
      record { end = x.0; there = at_end_of _ x.1; value = x.2 }

  pub is_returned : {o : Answer × Buffers} → Returned t before k o → judged t before k accepted ≡ some o
  unfolding judged
  is_returned r =
      (map-eq-some_iff (returned t before (reached t k)) (end_of (reached t k).run.next)).1 (r.end, ap end_of r.there ∙ end_there r.end, r.value)

  pub returned_over : {o : Answer × Buffers} → Returned t before k o → over (reached t k).run.next ≡ true
  returned_over r = rw r.there (over_there r.end)
