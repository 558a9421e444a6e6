-- A booking with its activity by their rows, and what check 1 counts and sums of them. Assumes nothing.
use Rattle.std.specs.Prelude.{ℕ, ◌<◌, ◌≡◌, Bool, true, not, ◌&&◌, ℤ, pos, ◌+ℤ◌, Some}
use mathlib.Core.List.{List, map, foldl}
use Rattle.loops.specs.Lists.{any_of}
use Rattle.rows.specs.Cells.{row_count, num, is}
use Rattle.sheet.specs.Places.{place_of}
use Rattle.model.specs.Sheet.{sheet}
use Rattle.model.specs.Activity.{requirements}
use Rattle.model.specs.Schedule.{assignment_at}
use Rattle.model.specs.inner.Records.{activity_of, assignment_of}
use Rattle.definition.specs.Pieces.{of_piece, is_held}
use Rattle.definition.specs.CheckAssignments.{misplaced}

-- row k is a booking of the activity of row a
pub record Booked (rows : List ℤ) (a k : ℕ) : Type 0 where
  pub within : k < row_count rows
  pub kind : is rows k 0 23 ≡ true
  pub place : place_of rows 2 (num rows k 1) ≡ Some a

-- the sum of the quantities of the requirements
unfoldable pub quantities : List ℤ → ℕ → ℤ
quantities rows a = foldl ◌+ℤ◌ (pos 0) (map (λ q. q.quantity) (requirements (sheet rows) (num rows a 1)))

-- row j is a booking that takes a unit of booking k's piece
unfoldable pub takes_unit : List ℤ → ℕ → ℕ → ℕ → Bool
takes_unit rows a k j =
    any_of
    (λ x. of_piece (assignment_of rows k) x && (not (misplaced (sheet rows) (activity_of rows a) x) && not (is_held (sheet rows) x)))
    (assignment_at (sheet rows) j)
