-- How late the windows of a calendar end. Assumes nothing.
use Rattle.std.specs.Prelude.{ℕ, ◌≤◌, ℤ, pos}
use Rattle.calendar.specs.Clock.{clock}
use Rattle.calendar.specs.Calendar.{Calendar}
use Rattle.calendar.specs.WorkEnd.{reach}

-- after no instant does any window reach beyond the greatest time of a sheet
pub record Near (windows : Calendar ℤ) : Type 0 where
  pub near : (s : ℕ) → reach clock (pos s) windows ≤ 4000000000000
