-- What a sheet that is not refused has: each number in the class of its column, every owner in the sheet, no row that repeats another.
-- Assumes nothing.
use Rattle.std.specs.Prelude.{ℕ, ◌<◌, ◌≤◌, ◌≡◌, true, false, List, ℤ, length}
use Rattle.rows.specs.Cells.{row_count, cell, num}
use Rattle.rows.specs.Table.{class_of}
use Rattle.rows.specs.Ranges.{in_class}
use Rattle.sheet.specs.Refusals.{known_kind, half_part, absent_at, repeats}

pub record Accepted (rows : List ℤ) : Type 0 where
  pub short : length rows ≤ 8000
  pub kinds : (k : ℕ) → k < row_count rows → known_kind rows k ≡ true
  pub columns : (k c : ℕ) → in_class (class_of (num rows k 0) c) (cell rows k c) ≡ true
  pub parts : (k : ℕ) → k < row_count rows → half_part rows k ≡ false
  pub owners : (k c : ℕ) → k < row_count rows → absent_at rows k c ≡ false
  pub once : (k j : ℕ) → k < row_count rows → j < k → repeats rows k j ≡ false
