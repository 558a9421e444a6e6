use mathlib.Core.Path.{◌≡◌}
use mathlib.Core.List.{foldl}
use Rattle.calendar.specs.Clock.{clock}
use Rattle.chains.specs.inner.Left.{Left}
use Rattle.findings.specs.inner.Told.{so_far, tell, telling}
use Rattle.rows.specs.Cells.{row_count}
use Rattle.sheet.specs.Places.{of_kind}
use Rattle.model.specs.Sheet.{sheet}
use Rattle.definition.specs.CheckCalendars.{check_calendars}
use Rattle.check6_calendars.proofs.Booking.{by_booking}
use Rattle.check6_calendars.proofs.check_calendars.Given as goal

abbrev pub invariant-loop-k : goal.invariant-loop-k
invariant-loop-k l =
    Left (of_kind l.rows 23) (row_count l.rows) l.k-iterator
    × (foldl (telling (by_booking l.rows)) (so_far l.found) l.k-iterator ≡ tell (so_far l.initial.found) (check_calendars clock (sheet l.rows)))
