-- The case file as a format, told without the reader: the bytes of a list of records, which are well formed, and what they say.
use Rattle.std.specs.Prelude.{◌≡◌, List, [], ◌∷◌, ◌++◌, ℕ, zero, suc, ◌+◌, ◌-◌, ◌*◌, ◌/◌, ◌%◌, ◌≤◌, ◌<◌, min, max, ℤ, pos, length, get_or, drop}
use Rattle.lines.specs.Square.{cell}
use Rattle.storm_case.specs.declared.Case.{Case}
use Rattle.judgement.specs.Scan.{Scan, accepted, judged}
use Rattle.storm_case.specs.Case.{case, hut_of, row_area, row_clock, column_area, column_clock}

pub record Fragment : Type 0 where
  pub hut : ℕ
  pub area : ℕ
  pub clock : ℕ

pub record Event : Type 0 where
  pub area : ℕ
  pub clock : ℕ

-- what stands between the size and the end: a row or a column
pub data Line : Type 0 where
  row : Fragment → Line
  column : Event → Line

-- in file order
unfoldable pub rows : List Line → List Fragment
rows [] = []
rows (row f ∷ lines) = f ∷ rows lines
rows (column e ∷ lines) = rows lines

unfoldable pub columns : List Line → List Event
columns [] = []
columns (row f ∷ lines) = columns lines
columns (column e ∷ lines) = e ∷ columns lines

-- ---- bytes

-- a number in so many bytes, the lowest first
unfoldable pub little_endian : ℕ → ℕ → List ℕ
little_endian zero x = []
little_endian (suc k) x = x % 256 ∷ little_endian k (x / 256)

unfoldable pub line_bytes : Line → List ℕ
line_bytes (row f) = 2 ∷ (little_endian 2 f.hut ++ little_endian 2 f.area ++ little_endian 4 f.clock)
line_bytes (column e) = 3 ∷ (little_endian 2 e.area ++ little_endian 4 e.clock)

-- the lines, and the end
unfoldable pub lines_bytes : List Line → List ℕ
lines_bytes [] = 4 ∷ []
lines_bytes (line ∷ lines) = line_bytes line ++ lines_bytes lines

-- a whole case: its size, its lines, its end
unfoldable pub encode : ℕ → ℕ → List Line → List ℕ
encode n window lines = 1 ∷ (little_endian 2 n ++ little_endian 4 window ++ lines_bytes lines)

-- ---- well-formed cases

-- numbers that fit their bytes
pub record FragmentFits (f : Fragment) : Type 0 where
  pub hut : f.hut < 65_536
  pub area : f.area < 65_536
  pub clock : f.clock < 4_294_967_296

pub record EventFits (e : Event) : Type 0 where
  pub area : e.area < 65_536
  pub clock : e.clock < 4_294_967_296

abbrev pub AllFit : List Line → Type 0
AllFit [] = Unit {0}
AllFit (row f ∷ lines) = FragmentFits f × AllFit lines
AllFit (column e ∷ lines) = EventFits e × AllFit lines

pub record WellFormed (n window : ℕ) (lines : List Line) : Type 0 where
  pub some : 1 ≤ n
  pub small : n ≤ 64
  pub low : window ≤ 1_000_000_000
  pub all_rows : length (rows lines) ≡ n
  pub all_columns : length (columns lines) ≡ n
  pub fit : AllFit lines

-- a file that is one
pub record IsCase (file : List ℕ) : Type 0 where
  pub n : ℕ
  pub window : ℕ
  pub lines : List Line
  pub well_formed : WellFormed n window lines
  pub written : file ≡ encode n window lines

-- ---- what a scan says

-- asked for only where there is none
abbrev pub no_row : Fragment
no_row = record { hut = 0; area = 0; clock = 0 }

abbrev pub no_column : Event
no_column = record { area = 0; clock = 0 }

abbrev pub row_at : List Line → ℕ → Fragment
row_at lines i = get_or (rows lines) i no_row

abbrev pub column_at : List Line → ℕ → Event
column_at lines j = get_or (columns lines) j no_column

-- the size and the window, and of each row and column what its record says
pub record Matches (file : List ℕ) (s : Scan) (n window : ℕ) (lines : List Line) : Type 0 where
  pub size : s.n ≡ n
  pub window_is : s.window ≡ window
  pub hut : (i : ℕ) → i < n → hut_of file s i ≡ (row_at lines i).hut
  pub row_area_is : (i : ℕ) → i < n → row_area file s i ≡ (row_at lines i).area
  pub row_clock_is : (i : ℕ) → i < n → row_clock file s i ≡ (row_at lines i).clock
  pub column_area_is : (j : ℕ) → j < n → column_area file s j ≡ (column_at lines j).area
  pub column_clock_is : (j : ℕ) → j < n → column_clock file s j ≡ (column_at lines j).clock

-- a well-formed case is accepted
pub record Accepts (n window : ℕ) (lines : List Line) : Type 0 where
  pub scan : Scan
  pub verdict : judged (encode n window lines) ≡ accepted scan
  pub matches : Matches (encode n window lines) scan n window lines

-- an accepted file is a well-formed case
pub record Reads (file : List ℕ) (s : Scan) : Type 0 where
  pub lines : List Line
  pub well_formed : WellFormed s.n s.window lines
  pub written : file ≡ encode s.n s.window lines
  pub matches : Matches file s s.n s.window lines

-- ---- what the reader gives for a case

-- equal areas, and clocks at most the window apart
pub record Allowed (window : ℕ) (f : Fragment) (e : Event) : Type 0 where
  pub same_area : f.area ≡ e.area
  pub not_later : f.clock ≤ e.clock + window
  pub not_earlier : e.clock ≤ f.clock + window

-- the absolute difference of the clocks
abbrev pub clocks_apart : Fragment → Event → ℕ
clocks_apart f e = max f.clock e.clock - min f.clock e.clock

-- the cost and the mask byte of a pair
pub record PairIs (window : ℕ) (f : Fragment) (e : Event) (cost : ℤ) (byte : ℕ) : Type 0 where
  pub allowed : Allowed window f e → (byte ≡ 1) × (cost ≡ pos (clocks_apart f e))
  pub forbidden : (Allowed window f e → ⊥) → (byte ≡ 0) × (cost ≡ pos 0)

-- number 0, the first n * n cells by their row and column, the rest as it was lent
pub record ReadAs (n window : ℕ) (lines : List Line) (costs : List ℤ) (mask : List ℕ) (answer : Case × List ℤ × List ℕ) : Type 0 where
  pub case_is : answer.0 ≡ case 0 0 n window
  pub pair_is : (i j : ℕ) → i < n → j < n
      → PairIs window (row_at lines i) (column_at lines j) (cell (pos 0) n answer.1 i j) (cell 0 n answer.2 i j)
  pub costs_long : length answer.1 ≡ length costs
  pub mask_long : length answer.2 ≡ length mask
  pub other_costs : drop (n * n) answer.1 ≡ drop (n * n) costs
  pub other_mask : drop (n * n) answer.2 ≡ drop (n * n) mask
