-- What the cells ask of the scan and of the room.
use Rattle.std.specs.Prelude.{List, ◌≡◌, ℕ, ◌*◌, length}
use Rattle.judgement.specs.Scan.{Scan, Consistent}

-- as many fragments and events as the size says, and room for their cells
pub record Fillable {A B : Type 0} (file : List ℕ) (s : Scan) (costs : List A) (mask : List B) : Type 0 where
  pub consistent : Consistent file s
  pub all_rows : length s.fragments ≡ s.n
  pub all_columns : length s.events ≡ s.n
  pub costs_long : length costs ≡ s.n * s.n
  pub mask_long : length mask ≡ s.n * s.n
