-- What a scan of a file says beyond an earlier one, as lines; and what a full scan matches.
use mathlib.Core.Path.{◌≡◌, refl, sym, ap, ◌∙◌}
use mathlib.Core.List.{List, [], ◌∷◌, ◌++◌, map, append-nil, append_assoc}
use Prim.Native.Nat.{ℕ, zero, suc, ◌+◌, ◌<◌}
use native.Mathlib.Omega.{arith}
use lib.ListN.{length, get_or, drop, length-map}
use lib.Seq.{get_or-drop}
use Rattle.judgement.specs.Scan as D
use Rattle.storm_case.specs.Case.{hut_of, row_area, row_clock, column_area, column_clock}
use Rattle.storm_case.specs.Format.{Fragment, Event, Line, row, column, rows, columns, AllFit, WellFormed}
use Rattle.storm_case.specs.Format.{no_row, no_column, row_at, column_at, Matches}
use Rattle.judgement.proofs.ScanLaws.{Filled}
use Rattle.storm_case.proofs.FormatBytes.{u16_drop, u32_drop, row_in, column_in}

-- ---- lists

map_snoc : {A B : Type 0} (f : A → B) (xs : List A) (a : A) → map f (xs ++ (a ∷ [])) ≡ map f xs ++ (f a ∷ [])
map_snoc f [] a = refl
map_snoc f (x ∷ xs) a = ap (λ (l : List _). f x ∷ l) (map_snoc f xs a)

map_at : {A B : Type 0} (f : A → B) (xs : List A) (i : ℕ) (d : A) (e : B) → i < length xs → get_or (map f xs) i e ≡ f (get_or xs i d)
map_at f [] i d e h = absurd (omega arith)
map_at f (x ∷ xs) zero d e h = refl
map_at f (x ∷ xs) (suc i) d e h = map_at f xs i d e (omega arith)

pub first_kind : (file : List ℕ) (p : ℕ) → get_or (drop p file) 0 0 ≡ get_or file p 0
first_kind file p = let e : p + 0 ≡ p = omega arith in get_or-drop p file 0 0 ∙ ap (λ i. get_or file i 0) e

-- ---- what one scan says beyond another

abbrev pub row_from : List ℕ → ℕ → Fragment
row_from file p = row_in (drop p file)

abbrev pub column_from : List ℕ → ℕ → Event
column_from file p = column_in (drop p file)

pub record Further (file : List ℕ) (s t : D.Scan) (lines : List Line) : Type 0 where
  pub same_n : t.n ≡ s.n
  pub same_window : t.window ≡ s.window
  pub more_rows : map (row_from file) t.fragments ≡ map (row_from file) s.fragments ++ rows lines
  pub more_columns : map (column_from file) t.events ≡ map (column_from file) s.events ++ columns lines

module _ (file : List ℕ) (s : D.Scan) where
  pub no_further : Further file s s []
  unfolding rows columns
  no_further = record { same_n = refl; same_window = refl; more_rows = sym (append-nil _); more_columns = sym (append-nil _) }

  module _ {t : D.Scan} {lines : List Line} where
    pub row_further : {f : Fragment} → row_from file s.at ≡ f
        → Further file (D.with_row s) t lines → Further file s t (row f ∷ lines)
    unfolding rows columns
    row_further e h = record {
      same_n = h.same_n;
      same_window = h.same_window;
      more_rows = h.more_rows ∙ rw (map_snoc (row_from file) s.fragments s.at, e, append_assoc);
      more_columns = h.more_columns;
    }

    pub column_further : {e : Event} → column_from file s.at ≡ e
        → Further file (D.with_column s) t lines → Further file s t (column e ∷ lines)
    unfolding rows columns
    column_further e h = record {
      same_n = h.same_n;
      same_window = h.same_window;
      more_rows = h.more_rows;
      more_columns = h.more_columns ∙ rw (map_snoc (column_from file) s.events s.at, e, append_assoc);
    }

-- a full scan of a file matches what its lines say
module _ (file : List ℕ) {at n window : ℕ} {t : D.Scan} {lines : List Line} (h : Further file (D.scan_with at n window [] []) t lines)
    (full : Filled t) where
  row_is : (i : ℕ) → i < n → row_from file (get_or t.fragments i 0) ≡ row_at lines i
  row_is i l =
      let in_range : i < length t.fragments = omega (arith, full.rows, h.same_n) in
      sym (map_at (row_from file) t.fragments i 0 no_row in_range) ∙ ap (λ (fs : List Fragment). get_or fs i no_row) h.more_rows

  column_is : (j : ℕ) → j < n → column_from file (get_or t.events j 0) ≡ column_at lines j
  column_is j l =
      let in_range : j < length t.events = omega (arith, full.columns, h.same_n) in
      sym (map_at (column_from file) t.events j 0 no_column in_range) ∙ ap (λ (es : List Event). get_or es j no_column) h.more_columns

  pub further_matches : Matches file t n window lines
  unfolding hut_of row_area row_clock column_area column_clock
  further_matches = record {
    size = h.same_n;
    window_is = h.same_window;
    hut = λ i l. u16_drop file (get_or t.fragments i 0) 1 ∙ ap (λ f. f.hut) (row_is i l);
    row_area_is = λ i l. u16_drop file (get_or t.fragments i 0) 3 ∙ ap (λ f. f.area) (row_is i l);
    row_clock_is = λ i l. u32_drop file (get_or t.fragments i 0) 5 ∙ ap (λ f. f.clock) (row_is i l);
    column_area_is = λ j l. u16_drop file (get_or t.events j 0) 1 ∙ ap (λ e. e.area) (column_is j l);
    column_clock_is = λ j l. u32_drop file (get_or t.events j 0) 3 ∙ ap (λ e. e.clock) (column_is j l);
  }

  pub further_well_formed : AllFit lines → WellFormed n window lines
  further_well_formed fit =
      record {
        some = omega (arith, full.some, h.same_n);
        small = omega (arith, full.small, h.same_n);
        low = omega (arith, full.low, h.same_window);
        all_rows = ap length (sym h.more_rows) ∙ length-map t.fragments (row_from file) ∙ full.rows ∙ h.same_n;
        all_columns = ap length (sym h.more_columns) ∙ length-map t.events (column_from file) ∙ full.columns ∙ h.same_n;
        fit = fit;
      }
