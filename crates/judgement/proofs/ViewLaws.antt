-- The code's judgement of one record against the definition's: what each test and each kind gives.
use mathlib.Core.Path.{◌≡◌, refl, sym, ap, subst, ◌∙◌}
use mathlib.Core.Logic.{◌≢◌, ◌⊎◌, inl, inr}
use mathlib.Core.Bool.{true}
use mathlib.Core.List.{List, [], ◌∷◌}
use Prim.Native.Nat.{ℕ, suc, ◌+◌, ◌-◌, ◌≤◌, ◌<◌}
use native.Mathlib.Omega.{arith}
use lib.ListN.{length, get_or}
use Rattle.std.specs.Prelude.{Ok, Err}
use Rattle.records.specs.declared.Kind.{Kind}
use Rattle.records.specs.declared.Kind.TheVariants.{Size, Fragment, Event, End}
use Rattle.records.specs.declared.Missing.{Missing}
use Rattle.records.specs.Records.{found, number, code_of, body_length, Whole}
use Rattle.records.proofs.RecordLaws.{found_whole, size_fits}
use Rattle.judgement.specs.declared.refusal.Rule.{Rule}
use Rattle.judgement.specs.declared.refusal.Refusal.{Refusal}
use Rattle.judgement.specs.Numbers.{u16_at, u32_at}
use Rattle.judgement.specs.Refused.{number_of, refusal}
use Rattle.judgement.specs.Scan as D
use Rattle.judgement.specs.View.{view_scan, view_refusal, view_judged, JudgesLine}
use Rattle.judgement.specs.declared.scan.Scan.{Scan}
use Rattle.judgement.proofs.ScanLaws.{bad_zero, bad_large, bad_window, good_size, size_good, line_early, line_many, line_good}
use Rattle.judgement.proofs.ScanLaws.{start_consistent, After, record_after, stays_refused, stays_accepted, record_missing, record_whole, kind_size, kind_fragment, kind_event, kind_end}

-- ---- a size

none_of : (xs : List ℕ) → length xs ≤ 0 → xs ≡ []
none_of [] h = refl
none_of (x ∷ xs) h = absurd (omega arith)

module _ (file : List ℕ) (s : D.Scan) {n w : ℕ} (e : n ≡ u16_at file (s.at + 1)) (ew : w ≡ u32_at file (s.at + 3)) where
  pub bad_sizes : (n ≡ 0) ⊎ ((n ≢ 0) × (64 < n)) ⊎ ((n ≢ 0) × (n ≤ 64) × (1_000_000_000 < w)) → D.bad_size file s ≡ true
  bad_sizes (inl z) = bad_zero file s e z
  bad_sizes (inr (inl h)) = bad_large file s e h.0 h.1
  bad_sizes (inr (inr h)) = bad_window file s e ew h.0 h.1 h.2

  -- no line was read yet
  pub size_read : {n' : ℕ} → n' ≡ n → D.Consistent file s → s.n ≡ 0 → n ≢ 0 → n ≤ 64 → w ≤ 1_000_000_000
      → D.more (D.scan_with (s.at + 7) n' w s.fragments s.events) ≡ D.size file s
  unfolding D.size D.bad_size
  size_read same h z some few low =
      rw (same, none_of s.fragments (omega (arith, h.rows.few)), none_of s.events (omega (arith, h.columns.few)), e, ew)
      (size_good file s z (good_size file s e ew some few low))

-- ---- a line

module _ (s next : D.Scan) (lines after : List ℕ) where
  pub line_refused : {e : Refusal} → JudgesLine s.n s.at lines (Err e) after → view_refusal e ≡ D.line s (length lines) next
  line_refused (kept, inl h) = rw h.1 (line_early s (length lines) next h.0)
  line_refused (kept, inr h) = rw h.2 (line_many s (length lines) next h.0 h.1)

  pub line_kept : JudgesLine s.n s.at lines (Ok tt) after → D.more next ≡ D.line s (length lines) next
  line_kept h = line_good s (length lines) next h.0 h.1

-- ---- by the kind

module _ (file : List ℕ) (s : D.Scan) where
  pub is_missing : {missing : Missing} {rule : Rule} {e : Refusal} → number_of rule ≡ number (Err missing) → e ≡ refusal rule s.at → Err missing ≡ found file s.at
      → view_refusal e ≡ D.judge_record file s
  is_missing {missing} named put e = rw (put, named) (record_missing file s e missing refl)

  module _ (kind : Kind) (e : (code_of kind ≡ get_or file s.at 0) × (Ok (body_length (code_of kind)) ≡ found file s.at)) where
    whole : Whole file s.at
    whole = found_whole file s.at e.1 refl

    by_kind : D.by_kind file s ≡ D.judge_record file s
    by_kind = record_whole file s e.1 refl

    module _ (k : kind ≡ Size) where
      pub size_inside : s.at + 7 ≤ length file
      size_inside = size_fits file s.at whole (sym e.0 ∙ ap code_of k)

      pub is_size : D.size file s ≡ D.judge_record file s
      is_size = kind_size file s (sym e.0 ∙ ap code_of k) ∙ by_kind

    module _ (k : kind ≡ Fragment) where
      pub is_fragment : D.fragment s ≡ D.judge_record file s
      is_fragment = kind_fragment file s (sym e.0 ∙ ap code_of k) ∙ by_kind

    module _ (k : kind ≡ Event) where
      pub is_event : D.event s ≡ D.judge_record file s
      is_event = kind_event file s (sym e.0 ∙ ap code_of k) ∙ by_kind

    module _ (k : kind ≡ End) where
      pub is_end : D.end file s ≡ D.judge_record file s
      is_end =
          let four : get_or file s.at 0 ≡ 4 = sym e.0 ∙ ap code_of k in
          kind_end file s (λ q. absurd (omega (arith, four, q))) (λ q. absurd (omega (arith, four, q))) (λ q. absurd (omega (arith, four, q))) ∙ by_kind

  -- what goes on stays consistent
  pub more_consistent : {t : D.Scan} → D.Consistent file s → D.more t ≡ D.judge_record file s → D.Consistent file t
  more_consistent h e = (subst (After file s) (sym e) (record_after file s h)).1

-- ---- record after record

-- the rest of the records gives the file's verdict, and there is room for them
pub record Judging (file : List ℕ) (s : D.Scan) : Type 0 where
  pub fuel : ℕ
  pub exact : D.judge_from file fuel (D.more s) ≡ D.judged file
  pub room : length file < s.at + fuel
  pub consistent : D.Consistent file s

pub judging_start : (file : List ℕ) → Judging file D.start
unfolding D.judged
judging_start file = record { fuel = length file + 1; exact = refl; room = omega arith; consistent = start_consistent }

module _ {file : List ℕ} {s : D.Scan} (g : Judging file s) where
  step : {j : D.Judged} → j ≡ D.judge_record file s → D.judge_from file (g.fuel - 1) j ≡ D.judged file
  unfolding D.judge_from
  step {j} e =
      let one : suc (g.fuel - 1) ≡ g.fuel = omega (arith, g.room, g.consistent.inside) in
      ap (D.judge_from file (g.fuel - 1)) e ∙ ap (λ k. D.judge_from file k (D.more s)) one ∙ g.exact

  pub judging_refused : {number place : ℕ} → D.refused number place ≡ D.judge_record file s → D.refused number place ≡ D.judged file
  judging_refused {number} {place} e = sym (stays_refused file (g.fuel - 1) number place) ∙ step e

  module _ {t : D.Scan} where
    pub judging_accepted : D.accepted t ≡ D.judge_record file s → D.accepted t ≡ D.judged file
    judging_accepted e = sym (stays_accepted file (g.fuel - 1) t) ∙ step e

    pub judging_next : D.more t ≡ D.judge_record file s → Judging file t × (length file - t.at < length file - s.at)
    judging_next e =
        let after : (s.at < t.at) × D.Consistent file t = subst (After file s) (sym e) (record_after file s g.consistent) in (
          record { fuel = g.fuel - 1; exact = step e; room = omega (arith, g.room, after.0, g.consistent.inside); consistent = after.1 },
          omega (arith, after.0, after.1.inside),
        )

  pub judging_further : (s' : Scan) (kind : Kind) → (kind ≡ End → ⊥) → view_judged (Ok kind) s' ≡ D.judge_record file s
      → Judging file (view_scan s') × (length file - s'.at < length file - s.at)
  judging_further s' Size ne e = judging_next e
  judging_further s' Fragment ne e = judging_next e
  judging_further s' Event ne e = judging_next e
  judging_further s' End ne e = absurd (ne refl)
