-- Windows that are laid out, as a list, and as the calendar that they are.
use Rattle.std.specs.Prelude.{map, ℤ}
use Rattle.lent_room.specs.declared.lent_list.LentList.{LentList}
use Rattle.calendar.specs.declared.TimeWindow.{TimeWindow}
use Rattle.calendar.specs.Calendar.{Calendar}
use Rattle.calendar.specs.Layout.{window_of}
pub use Rattle.lent_room.specs.Listed.{listed}

unfoldable pub calendar_in : LentList TimeWindow 800 → Calendar ℤ
calendar_in l = map window_of (listed l)
