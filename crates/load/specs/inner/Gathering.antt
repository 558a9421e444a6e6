-- The bookings of a resource as they are gathered, row by row. Assumes nothing.
use Rattle.std.specs.Prelude.{ℕ, List, ℤ, eqb}
use Rattle.loops.specs.Lists.{given, each}
use Rattle.model.specs.Sheet.{sheet}
use Rattle.model.specs.Schedule.{assignment_at}
use Rattle.load.specs.Load.{Booking, booking_of}

-- the booking of row k, where it is one of the resource x
unfoldable pub booking_on : List ℤ → ℕ → ℕ → List (Booking ℤ)
booking_on rows x k = each (λ a. given (eqb a.resource x) (booking_of (sheet rows) a)) (assignment_at (sheet rows) k)
