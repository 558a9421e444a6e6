-- Places that are found once and kept: a table has the place for row k at k. Assumes nothing.
use Rattle.std.specs.Prelude.{ℕ, ◌<◌, ◌≤◌, ◌≡◌, List, ℤ, get_or}
use Rattle.std.specs.Prelude.{Option, Some}
use Rattle.rows.specs.Cells.{row_count}
use Rattle.sheet.specs.inner.Index.{or_end}

-- what was found is a row
pub record IsRow (rows : List ℤ) (x : Option ℕ) : Type 0 where
  pub within : (k : ℕ) → x ≡ Some k → k < row_count rows

-- what f finds for each row; past the last row the table has 0
pub record Kept (rows : List ℤ) (f : ℕ → Option ℕ) (t : List ℕ) : Type 0 where
  pub short : row_count rows ≤ 800
  pub at : (k : ℕ) → k < row_count rows → get_or t k 0 ≡ or_end rows (f k)
  pub past : (k : ℕ) → row_count rows ≤ k → get_or t k 0 ≡ 0
