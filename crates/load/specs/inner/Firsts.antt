-- First bookings by row. Assumes nothing.
use Rattle.std.specs.Prelude.{ℕ, Bool, not, ◌&&◌, List, eqb, ℤ}
use Rattle.loops.specs.Lists.{any_of}
use Rattle.rows.specs.Cells.{num, is}
use Rattle.model.specs.Sheet.{sheet}
use Rattle.model.specs.Schedule.{assignments_below}

-- a booking above row k is of the resource x
abbrev pub booked_above : List ℤ → ℕ → ℕ → Bool
booked_above rows k x = any_of (λ e. eqb e.resource x) (assignments_below (sheet rows) k)

-- row k is a booking, the first of its resource
unfoldable pub is_first : List ℤ → ℕ → Bool
is_first rows k = is rows k 0 23 && not (booked_above rows k (num rows k 3))
