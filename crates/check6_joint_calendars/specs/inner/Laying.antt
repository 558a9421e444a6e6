-- How calendars come to be laid out one behind the other. Assumes nothing.
use Rattle.std.specs.Prelude.{ℕ, ◌+◌, ◌≤◌, ◌≡◌, Bool, ◌&&◌, List, [], ◌∷◌, ◌++◌, ltb, ℤ, length}
use Rattle.loops.specs.Lists.{given}
use Rattle.loops.specs.Range.{collect}
use Rattle.loops.specs.Search.{count_below}
use Rattle.lent_room.specs.declared.lent_list.LentList.{LentList}
use Rattle.lent_room.specs.Listed.{Room, behind, past}
use Rattle.calendar.specs.declared.Places.{Places}
use Rattle.calendar.specs.declared.TimeWindow.{TimeWindow}
use Rattle.calendar.specs.Calendar.{Calendar}
use Rattle.rows.specs.Cells.{row_count, num, is}
use Rattle.sheet.specs.Places.{of_kind}
use Rattle.owners.specs.inner.Owners.{own_place}
use Rattle.model.specs.Sheet.{sheet}
use Rattle.model.specs.Resource.{windows}
use Rattle.window_rows.specs.Listed.{listed, calendar_in}
use Rattle.check6_joint_calendars.specs.inner.Taken.{marked}
use Rattle.check6_joint_calendars.specs.inner.Laid.{LaidOut}

-- the calendar x, of m windows, is laid out behind the others
pub record Added (x : Calendar ℤ) (m : ℕ) (l l' : LentList TimeWindow 800) (q q' : LentList Places 800) : Type 0 where
  pub windows : calendar_in l' ≡ calendar_in l ++ x
  pub places : listed q' ≡ listed q ++ record { from = length (listed l); to = length (listed l) + length x } ∷ []
  pub count : length (listed l') ≡ length (listed l) + m
  pub behind_windows : behind l' ≡ past (length x) (behind l)
  pub behind_places : behind q' ≡ past 1 (behind q)

-- the calendar of row r's resource, where it is marked
unfoldable pub calendar_at : List ℤ → List Bool → ℕ → List (Calendar ℤ)
calendar_at rows marks r = given (marked marks r) (windows (sheet rows) 15 (num rows r 1))

-- row j is a window of a resource above row i
unfoldable pub window_above : List ℤ → ℕ → ℕ → Bool
window_above rows i j = is rows j 0 15 && ltb (own_place rows j) i

-- the calendars of the marked resources among the first i rows are laid out in the lent rooms, and no others; there is place for the windows of the rest
pub record Resources (rows : List ℤ) (marks : List Bool) (i : ℕ) (w : Room TimeWindow) (p : Room Places) (l : LentList TimeWindow 800) (q : LentList Places 800) : Type 0 where
  pub out : LaidOut (collect (calendar_at rows marks) i) w p l q
  pub windows : length (listed l) ≤ count_below (window_above rows i) (row_count rows)
  pub calendars : length (listed q) ≤ count_below (of_kind rows 11) i
