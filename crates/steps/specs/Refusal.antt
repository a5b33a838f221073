-- What is found before the steps begin: the rules 1 to 5, and the test of the rows.
use Rattle.std.specs.Prelude.{◌≡◌, Bool, cond, not, ◌&&◌, ◌||◌, List, [], ◌∷◌, ℕ, ◌*◌, ◌≤◌, ◌<◌, T, eqb, ltb, ℤ, pos, negsuc, length, get_or}
use Rattle.std.specs.Int.Signed.{lt_z}
use Rattle.lines.specs.First.{first, any}
use Rattle.steps.specs.Lent.{Task, Buffers, allows}
use Rattle.steps.specs.Rules.{Rule, rule, cell_rule, by_rules}

pub data Verdict : Type 0 where
  -- a rule's number, and the place
  refused : ℕ → ℕ → Verdict
  -- a row without an allowed cell
  dead : ℕ → Verdict
  accepted : Verdict

-- below -1,000,000,000 or above 1,000,000,000
unfoldable pub out_of_range : ℤ → Bool
out_of_range z = lt_z z (negsuc 999_999_999) || lt_z (pos 1_000_000_000) z

unfoldable pub bad_mask : List ℕ → ℕ → Bool
bad_mask mask q = ltb 1 (get_or mask q 1)

unfoldable pub bad_cost : List ℤ → List ℕ → ℕ → Bool
bad_cost costs mask q = eqb (get_or mask q 1) 1 && out_of_range (get_or costs q (pos 0))

unfoldable pub dead_row : ℕ → List ℕ → ℕ → Bool
dead_row n mask i = not (any (allows n mask i) n)

-- ---- lengths

-- the written buffers, by their lengths: squares of so many cells, lines of so many
unfoldable pub has_room : (cells lines working marks columns row_prices column_prices : ℕ) → Bool
has_room cells lines working marks columns row_prices column_prices =
    eqb working cells && eqb marks cells && eqb columns lines && eqb row_prices lines && eqb column_prices lines

abbrev pub room : ℕ → ℕ → Buffers → Bool
room cells lines b =
    has_room cells lines (length b.working) (length b.marks) (length b.columns) (length b.row_prices) (length b.column_prices)

-- ---- the verdict

-- Rules 1 to 5. `limit` is the largest n; `others` says whether every buffer beside costs and mask has exactly its length.
unfoldable pub rules : ℕ → ℕ → List ℤ → List ℕ → Bool → List Rule
rules limit n costs mask others =
    rule 1 (eqb n 0)
    ∷ rule 2 (ltb limit n)
    ∷ rule 3 (not (eqb (length costs) (n * n) && eqb (length mask) (n * n) && others))
    ∷ cell_rule 4 (bad_mask mask) (n * n)
    ∷ cell_rule 5 (bad_cost costs mask) (n * n)
    ∷ []

-- what the rules let pass
pub record Admitted (limit n : ℕ) (costs : List ℤ) (mask : List ℕ) (others : Bool) : Type 0 where
  pub some : 0 < n
  pub most : n ≤ limit
  pub costs_length : length costs ≡ n * n
  pub mask_length : length mask ≡ n * n
  pub room : T others
  pub flags : (q : ℕ) → q < n * n → T (not (bad_mask mask q))
  pub range : (q : ℕ) → q < n * n → T (not (bad_cost costs mask q))

-- what the rules let pass is tested for a row without an allowed cell
unfoldable pub by_rows : ℕ → List ℕ → Verdict
by_rows n mask = cond (any (dead_row n mask) n) (dead (first (dead_row n mask) n)) accepted

-- the first that applies
unfoldable pub judgement : ℕ → ℕ → List ℤ → List ℕ → Bool → Verdict
judgement limit n costs mask others = by_rules refused (rules limit n costs mask others) (by_rows n mask)

unfoldable pub verdict : Task → ℕ → Buffers → Verdict
verdict t limit b = judgement limit t.n t.costs t.mask (room (t.n * t.n) t.n b)
