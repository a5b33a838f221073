-- What the records of an accepted file say of each row and column.
use Rattle.std.specs.Prelude.{List, ℕ, ◌+◌, get_or}
use Rattle.judgement.specs.Numbers.{u16_at, u32_at}
use Rattle.judgement.specs.Scan.{Scan}

module _ (file : List ℕ) (s : Scan) where
  -- of row i: the fragment's hut, area and clock
  unfoldable pub hut_of : ℕ → ℕ
  hut_of i = u16_at file (get_or s.fragments i 0 + 1)

  unfoldable pub row_area : ℕ → ℕ
  row_area i = u16_at file (get_or s.fragments i 0 + 3)

  unfoldable pub row_clock : ℕ → ℕ
  row_clock i = u32_at file (get_or s.fragments i 0 + 5)

  -- of column j: the event's area and clock
  unfoldable pub column_area : ℕ → ℕ
  column_area j = u16_at file (get_or s.events j 0 + 1)

  unfoldable pub column_clock : ℕ → ℕ
  column_clock j = u32_at file (get_or s.events j 0 + 3)
