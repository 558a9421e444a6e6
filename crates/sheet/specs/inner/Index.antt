-- The tables that index the rows by kind and by name, and how a table of places holds a place. They are filled once, and the checks walk along them in
-- place of all rows. Assumes nothing.
use Rattle.std.specs.Prelude.{ℕ, ◌+◌, ◌*◌, ◌%◌, ◌<◌, ◌≤◌, cond, List, ℤ, ltb}
use Rattle.std.specs.Prelude.{Option, None, Some}
use Rattle.loops.specs.inner.Chain.{Links}
use Rattle.rows.specs.Cells.{row_count, num}
use Rattle.sheet.specs.declared.KindTable.{KindTable}

-- a place as a number, and the number of rows for none
unfoldable pub or_end : List ℤ → Option ℕ → ℕ
or_end rows None = row_count rows
or_end rows (Some k) = k

-- the row that a stored place names
unfoldable pub stored_place : List ℤ → ℕ → Option ℕ
stored_place rows k = cond (ltb k (row_count rows)) (Some k) None

-- ---- what the tables hold

-- so many rows, of such kinds, have tables
pub record Shaped (rows : List ℤ) : Type 0 where
  pub short : row_count rows ≤ 800
  pub kinds : (k : ℕ) → k < row_count rows → num rows k 0 < 32

unfoldable pub kind_key : List ℤ → ℕ → ℕ
kind_key rows k = num rows k 0

-- the chain, one of 2,048, of a kind and a number in column 1
unfoldable pub name_hash : ℕ → ℕ → ℕ
name_hash kind id = (id % 2048 * 37 + kind * 389) % 2048

unfoldable pub name_key : List ℤ → ℕ → ℕ
name_key rows k = name_hash (num rows k 0) (num rows k 1)

-- a chain for each kind, and the chains by kind and column 1
pub record Kinds (rows : List ℤ) (t : KindTable) : Type 0 where
  pub short : row_count rows ≤ 800
  pub links : Links (kind_key rows) 32 0 (row_count rows) t.kinds
  pub names : Links (name_key rows) 2048 0 (row_count rows) t.names
