-- Edges of calendar time, by computation. (The rules' examples G to L stand with A to F in shift/specs/Examples.)
use Rattle.std.specs.Prelude.{ℕ, ◌≡◌, refl, true, false, List, [], ◌∷◌, pos}
use Rattle.calendar.specs.declared.WindowKind.TheVariants.{Open, Closure}
use Rattle.calendar.specs.declared.TimeWindow.{TimeWindow}
use Rattle.calendar.specs.declared.Places.{Places}
use Rattle.calendar.specs.Clock.{clock}
use Rattle.loops.specs.Lists.{any_of, all_of}
use Rattle.calendar.specs.Calendar.{contains, covers, hits, is_working_time, interval_fits, joint_working}
use Rattle.calendar.specs.Amount.{count, joint_available_ms}
use Rattle.calendar.specs.WorkEnd.{ends_at, end_in, reach, reaches, end_after, end_from, joint_work_end}
use Rattle.calendar.specs.Layout.{windows_of, calendar_of, lists_of, calendars_of}

abbrev pub open' : ℕ → ℕ → TimeWindow
open' start end = record { kind = Open; start = start; end = end }

abbrev pub closure : ℕ → ℕ → TimeWindow
closure start end = record { kind = Closure; start = start; end = end }

-- a calendar with windows 0..10 and 20..30
abbrev pub two : List TimeWindow
two = open' 0 10 ∷ open' 20 30 ∷ []

-- windows 0..10 and 10..20
abbrev pub next : List TimeWindow
next = open' 0 10 ∷ open' 10 20 ∷ []

-- one window, 5..5
abbrev pub empty : List TimeWindow
empty = open' 5 5 ∷ []

-- a window 2..9 and a closure 4..6
abbrev pub lunch : List TimeWindow
lunch = open' 2 9 ∷ closure 4 6 ∷ []

-- the calendar at the places 0 and 1
abbrev pub both : List Places
both = record { from = 0; to = 2 } ∷ []

-- Adjacent windows are not joined by `interval_fits`, though work runs through them; an open window
-- of length 0 is listed all the same; a window covers its start and not its end, a closure the same.
pub edges :
    (interval_fits clock (calendar_of next 0 2) (pos 5) (pos 15) ≡ false)
    × (joint_work_end clock (calendars_of next both) (pos 5) (pos 15) ≡ ends_at (pos 20))
    × (is_working_time clock (calendar_of empty 0 1) (pos 5) ≡ false)
    × (is_working_time clock (calendar_of empty 0 0) (pos 5) ≡ true)
    × (is_working_time clock (calendar_of lunch 0 1) (pos 2) ≡ true)
    × (is_working_time clock (calendar_of lunch 0 1) (pos 9) ≡ false)
    × (is_working_time clock (calendar_of lunch 1 2) (pos 4) ≡ false)
    × (is_working_time clock (calendar_of lunch 1 2) (pos 6) ≡ true)
    × (joint_available_ms clock (calendars_of lunch both) (pos 0) (pos 20) ≡ 5)
    × (joint_available_ms clock (calendars_of two both) (pos 5) (pos 25) ≡ 10)
unfolding any_of all_of contains covers hits is_working_time interval_fits joint_working count joint_available_ms end_in reach reaches end_after end_from joint_work_end windows_of calendar_of lists_of calendars_of
edges = (refl, refl, refl, refl, refl, refl, refl, refl, refl, refl)
