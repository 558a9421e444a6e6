-- Which bookings of resumable activities lack working time, by row. Assumes nothing.
use Rattle.std.specs.Prelude.{ℕ, Bool, false, not, ◌&&◌, ◌||◌, List, ltb, ℤ, pos}
use Rattle.loops.specs.Lists.{option}
use Rattle.calendar.specs.Clock.{clock}
use Rattle.calendar.specs.Calendar.{joint_working}
use Rattle.calendar.specs.Amount.{joint_available_ms}
use Rattle.rows.specs.Cells.{num, is}
use Rattle.sheet.specs.Places.{activity_place, resource_place}
use Rattle.model.specs.Sheet.{sheet}
use Rattle.model.specs.Activity.{needed_ms}
use Rattle.model.specs.inner.Records.{activity_of, assignment_of}
use Rattle.definition.specs.Pieces.{runs_on}
use Rattle.pieces.specs.inner.Marks.{Marks}
use Rattle.definition.specs.CheckCalendars.{piece_calendars}

-- booking k, of the activity of row a, starts outside the joint working time of its piece, or has too little of it: the test of `check_resumable`
abbrev pub uncovered_at : List ℤ → ℕ → ℕ → Bool
uncovered_at rows a k =
    not (joint_working clock (piece_calendars clock (sheet rows) (assignment_of rows k) (activity_of rows a)) (pos (num rows k 4)))
    || ltb (joint_available_ms clock (piece_calendars clock (sheet rows) (assignment_of rows k) (activity_of rows a)) (pos (num rows k 4)) (pos (num rows k 5)))
    (needed_ms (sheet rows) (activity_of rows a) (assignment_of rows k) (runs_on (sheet rows) (assignment_of rows k)))

-- row k is a booking on a resource of the sheet, of a resumable activity, and that is so of it: of other bookings check 6 asks no working time
unfoldable pub lacks_time : List ℤ → ℕ → Bool
lacks_time rows k =
    is rows k 0 23
    && option (resource_place rows (num rows k 3)) false λ o.
    option (activity_place rows (num rows k 1)) false λ a. is rows a 7 1 && uncovered_at rows a k

-- marks, true at each row of which that is so, false at the others and past the last row
abbrev pub Lacking : List ℤ → List Bool → Type 0
Lacking rows t = Marks rows (lacks_time rows) t
