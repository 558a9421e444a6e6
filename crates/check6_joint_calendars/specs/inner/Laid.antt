-- Calendars that are laid out one behind the other, and which those of a piece are.
use Rattle.std.specs.Prelude.{ℕ, ◌+◌, ◌≡◌, List, [], ◌∷◌, ◌++◌, ℤ, length}
use Rattle.loops.specs.Lists.{given, each}
use Rattle.loops.specs.Range.{collect}
use Rattle.lent_room.specs.declared.lent_list.LentList.{LentList}
use Rattle.lent_room.specs.Listed.{Room, behind, past}
use Rattle.calendar.specs.declared.Places.{Places}
use Rattle.calendar.specs.declared.TimeWindow.{TimeWindow}
use Rattle.calendar.specs.Calendar.{Calendar}
use Rattle.rows.specs.Cells.{row_count, num}
use Rattle.model.specs.Sheet.{sheet}
use Rattle.model.specs.Resource.{windows}
use Rattle.window_rows.specs.Listed.{listed, calendar_in}
use Rattle.check6_joint_calendars.specs.inner.Taken.{taken}

-- the windows of calendars, one calendar behind the other
unfoldable pub in_a_row : List (Calendar ℤ) → Calendar ℤ
in_a_row l = each (λ c. c) l

-- the places of calendars that stand one behind the other, from place n on
abbrev pub places_from : ℕ → List (Calendar ℤ) → List Places
places_from n [] = []
places_from n (c ∷ l) = record { from = n; to = n + length c } ∷ places_from (n + length c) l

-- These calendars are laid out in the rooms that are lent for windows and for places, and nothing else: all that stands behind them is as it was.
pub record LaidOut (cs : List (Calendar ℤ)) (w : Room TimeWindow) (p : Room Places) (l : LentList TimeWindow 800) (q : LentList Places 800) : Type 0 where
  pub windows : calendar_in l ≡ in_a_row cs
  pub places : listed q ≡ places_from 0 cs
  pub behind_windows : behind l ≡ past (length (in_a_row cs)) w
  pub behind_places : behind q ≡ past (length cs) p

-- the calendar of row r's resource, where a booking of booking k's piece is on it
abbrev pub taken_at : List ℤ → ℕ → ℕ → List (Calendar ℤ)
taken_at rows k r = given (taken rows k r) (windows (sheet rows) 15 (num rows r 1))

-- the calendars of booking k's piece, of the activity of row a: those of the resources that it takes, in the order of their rows, then the activity's
abbrev pub laid_calendars : List ℤ → ℕ → ℕ → List (Calendar ℤ)
laid_calendars rows k a = collect (taken_at rows k) (row_count rows) ++ (windows (sheet rows) 16 (num rows a 1) ∷ [])
