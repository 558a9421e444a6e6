-- How calendars are lent: the windows of all in one list, and the places of each; and what an answer stands for.
use Rattle.std.specs.Prelude.{ℕ, ◌^◌, cond, List, map, take, drop, ℤ, pos, ltb}
use Rattle.loops.specs.Numbers.{to_nat}
use Rattle.calendar.specs.declared.TimeWindow.{TimeWindow}
use Rattle.calendar.specs.declared.Places.{Places}
use Rattle.calendar.specs.declared.WorkEnd.{WorkEnd}
use Rattle.calendar.specs.declared.WorkEnd.TheVariants.{End, Pause, Never, Beyond}
use Rattle.calendar.specs.Calendar.{Window, Calendar}
use Rattle.calendar.specs.WorkEnd.{Ending, ends_at, pauses, never}

abbrev pub window_of : TimeWindow → Window ℤ
window_of x = record { kind = x.kind; start = pos x.start; end = pos x.end }

-- the windows at the places from, from + 1, .. (to - 1); a place past the last window is the place of none
unfoldable pub windows_of : List TimeWindow → ℕ → ℕ → List TimeWindow
windows_of w from to = drop from (take to w)

-- the calendar at these places
unfoldable pub calendar_of : List TimeWindow → ℕ → ℕ → Calendar ℤ
calendar_of w from to = map window_of (windows_of w from to)

-- several calendars
unfoldable pub lists_of : List TimeWindow → List Places → List (List TimeWindow)
lists_of w cs = map (λ c. windows_of w c.from c.to) cs

unfoldable pub calendars_of : List TimeWindow → List Places → List (Calendar ℤ)
calendars_of w cs = map (map window_of) (lists_of w cs)

-- the answer that says so: an end past the last number of 64 bits is beyond
abbrev pub saying : Ending ℤ → WorkEnd
saying (ends_at e) = cond (ltb (to_nat e) (2 ^ 64)) (End (to_nat e)) Beyond
saying pauses = Pause
saying never = Never
