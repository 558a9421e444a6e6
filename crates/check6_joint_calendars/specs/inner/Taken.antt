-- Which resources the bookings of a piece are on, by row. Assumes nothing.
use Rattle.std.specs.Prelude.{ℕ, ◌<◌, ◌≤◌, ◌≡◌, Bool, true, false, ◌&&◌, List, eqb, ℤ, length, get_or, Some}
use Rattle.loops.specs.Lists.{option}
use Rattle.loops.specs.Search.{any_below}
use Rattle.rows.specs.Cells.{row_count, num}
use Rattle.sheet.specs.Places.{place_of, resource_place}
use Rattle.pieces.specs.inner.Bookings.{in_piece}

-- booking j is on the resource of row r
abbrev pub is_on : List ℤ → ℕ → ℕ → Bool
is_on rows j r = option (resource_place rows (num rows j 3)) false (λ s. eqb s r)

-- among the first i rows, a booking of booking k's piece is on the resource of row r
unfoldable pub taken_below : List ℤ → ℕ → ℕ → ℕ → Bool
taken_below rows k i r = any_below (λ j. in_piece rows k j && is_on rows j r) i

-- a booking of booking k's piece is on the resource of row r
abbrev pub taken : List ℤ → ℕ → ℕ → Bool
taken rows k r = taken_below rows k (row_count rows) r

abbrev pub marked : List Bool → ℕ → Bool
marked marks r = get_or marks r false

-- marks, true at the row of each resource that is taken among the first i rows, false at the others and past the last row
pub record Marked (rows : List ℤ) (k i : ℕ) (marks : List Bool) : Type 0 where
  pub size : length marks ≡ 800
  pub at : (r : ℕ) → r < row_count rows → marked marks r ≡ taken_below rows k i r
  pub past : (r : ℕ) → row_count rows ≤ r → r < 800 → marked marks r ≡ false

-- the marks of rows are at resources
pub record OnResources (rows : List ℤ) (marks : List Bool) : Type 0 where
  pub size : length marks ≡ 800
  pub resource : (r : ℕ) → r < row_count rows → marked marks r ≡ true → place_of rows 11 (num rows r 1) ≡ Some r
