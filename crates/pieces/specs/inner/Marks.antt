-- Tables of marks: of each row whether a test holds of it. Assumes nothing.
use Rattle.std.specs.Prelude.{ℕ, ◌<◌, ◌≤◌, ◌≡◌, Bool, false, List, ℤ, get_or}
use Rattle.rows.specs.Cells.{row_count}

-- true at each row that passes, false at the others and past the last row
pub record Marks (rows : List ℤ) (f : ℕ → Bool) (marks : List Bool) : Type 0 where
  pub short : row_count rows ≤ 800
  pub at : (k : ℕ) → k < row_count rows → get_or marks k false ≡ f k
  pub past : (k : ℕ) → row_count rows ≤ k → get_or marks k false ≡ false
